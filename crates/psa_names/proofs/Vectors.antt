-- Rows worked out.
use Rattle.std.proofs.Common.{None, Some, codes, refl, ◌≡◌}
use Rattle.alg_encoding.specs.Encoding.{at_least_of, base_of, entry_of, minimum_of, tag_length_of, truncated_of}
use Rattle.alg_encoding.specs.Table.{base_at}
use Rattle.script_lang.specs.Numbers.{number_from}
unfoldable use Rattle.std.specs.Fmt.{digits}
use Rattle.psa_names.specs.Algorithms.{algorithm_name, algorithm_named, algorithm_text, length_behind, read_algorithm, read_tag, tag_of}
use Rattle.psa_names.specs.Tables.{algorithms, usages}
use Rattle.psa_names.specs.Usages.{read_flag, read_usage, usage_text, with_flags}

at_least_8 : algorithm_text 0x03888009 ≡ codes "HMAC(SHA_256)>=8"
unfolding algorithm_text algorithm_name tag_of algorithms base_of entry_of base_at tag_length_of minimum_of truncated_of at_least_of digits
at_least_8 = refl

cut_to_12 : algorithm_text 0x054c0200 ≡ codes "GCM/12"
unfolding algorithm_text algorithm_name tag_of algorithms base_of entry_of base_at tag_length_of minimum_of truncated_of at_least_of digits
cut_to_12 = refl

full_tag : algorithm_text 0x05500200 ≡ codes "GCM"
unfolding algorithm_text algorithm_name tag_of algorithms base_of entry_of base_at tag_length_of minimum_of truncated_of at_least_of digits
full_tag = refl

-- an AEAD without a length, and a hash's number with a length bit
no_tag : algorithm_text 0x05400200 ≡ codes "5400200"
unfolding algorithm_text algorithm_name tag_of algorithms base_of entry_of base_at tag_length_of minimum_of truncated_of at_least_of digits
no_tag = refl

no_algorithm : algorithm_text 0x02008009 ≡ codes "2008009"
unfolding algorithm_text algorithm_name tag_of algorithms base_of entry_of base_at tag_length_of minimum_of truncated_of at_least_of digits
no_algorithm = refl

small_letters : read_algorithm (codes "gcm/16") ≡ Some 0x05500200
unfolding read_algorithm algorithm_named read_tag length_behind algorithms number_from truncated_of base_of entry_of base_at
small_letters = refl

in_full : read_algorithm (codes "HMAC(SHA_512)/64") ≡ Some 0x0380000b
unfolding read_algorithm algorithm_named read_tag length_behind algorithms number_from truncated_of base_of entry_of base_at
in_full = refl

no_such_tag : read_algorithm (codes "GCM/5") ≡ None
unfolding read_algorithm algorithm_named read_tag length_behind algorithms number_from truncated_of at_least_of base_of entry_of base_at
no_such_tag = refl

a_number : read_algorithm (codes "ad") ≡ Some 0xad
unfolding read_algorithm number_from
a_number = refl

flags : usage_text 0x00010c05 ≡ codes "EXPORT,CACHE,SIGN_MESSAGE,VERIFY_MESSAGE,10000"
unfolding usage_text usages digits
flags = refl

any_order : read_usage (codes "800,sign_message,SIGN_MESSAGE") ≡ Some 0xc00
unfolding read_usage with_flags read_flag usages number_from
any_order = refl
