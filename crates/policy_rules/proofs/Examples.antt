-- Worked examples: HMAC with SHA-256 of at least 8 bytes, and two ciphers.
use Rattle.policy_rules.proofs.Common.{None, Some, base_of, entry_of, false, is_concrete, is_same_algorithm, is_wildcard, meet_algorithm, minimum_of, permits_algorithm, refl, tag_length_of, true, ◌≡◌}
use Rattle.alg_encoding.specs.Table.{base_at}

permits_8 : permits_algorithm 0x03888009 0x03880009 ≡ true
unfolding permits_algorithm base_at entry_of base_of tag_length_of minimum_of is_concrete is_same_algorithm
permits_8 = refl

permits_4 : permits_algorithm 0x03888009 0x03840009 ≡ false
unfolding permits_algorithm base_at entry_of base_of tag_length_of minimum_of is_concrete is_same_algorithm
permits_4 = refl

meets_16 : meet_algorithm 0x03888009 0x03908009 ≡ Some 0x03908009
unfolding meet_algorithm permits_algorithm base_at entry_of base_of tag_length_of minimum_of is_concrete is_wildcard is_same_algorithm
meets_16 = refl

meets_4 : meet_algorithm 0x03888009 0x03848009 ≡ Some 0x03888009
unfolding meet_algorithm permits_algorithm base_at entry_of base_of tag_length_of minimum_of is_concrete is_wildcard is_same_algorithm
meets_4 = refl

-- the full length, written in two ways, is the source's
meets_full : meet_algorithm 0x03a00009 0x03800009 ≡ Some 0x03a00009
unfolding meet_algorithm permits_algorithm base_at entry_of base_of tag_length_of minimum_of is_concrete is_wildcard is_same_algorithm
meets_full = refl

no_meet : meet_algorithm 0x04c01000 0x04404000 ≡ None
unfolding meet_algorithm permits_algorithm base_at entry_of base_of tag_length_of minimum_of is_concrete is_wildcard is_same_algorithm
no_meet = refl
