-- What several proofs of this crate cite of its words, and of other crates'.
pub use Rattle.hex.specs.Hex.{encode_lower}
pub use Rattle.key_attributes.specs.declared.Attributes.{Attributes}
pub use Rattle.line_generator.specs.{Generator.call, Generator.rising_bytes, Generator.fields, Generator.generator_line, Generator.generator_lines, Generator.import_fields, Summary.count_line}
unfoldable pub use Rattle.line_generator.specs.Summary.{summary_of}
pub use Rattle.psa_status.specs.{Rows.Rows, Rows.first_row, Rows.unless, declared.Status.Status, declared.Status.TheVariants.AlreadyExists, declared.Status.TheVariants.InsufficientStorage, declared.Status.TheVariants.InvalidHandle, declared.Status.TheVariants.KeyLimit, declared.Status.TheVariants.NotSupported, declared.Status.TheVariants.Success}
pub use Rattle.owner_space.specs.declared.names.Names.TheVariants.{Unowned}
pub use Rattle.script_lang.specs.Prelude.{AreCalls, IsOfSession, ReplyLine, Turn, attributes_at, bytes_text, id_given, is_success, lines_of, numbered, replies_to, request_of, turns_from, turns_of}
unfoldable pub use Rattle.script_lang.specs.Prelude.{reply_text, unranked_text}
pub use Rattle.sha2.specs.Hashers.{Holds256}
unfoldable pub use Rattle.sha2.specs.Sha256.{sha256}
pub use Rattle.std.proofs.{lemmas.Bool.Decides.nat_tests, lemmas.Grind.flat_map-append, lemmas.List.append-nil, lemmas.List.length-map, lemmas.List.length-set, lemmas.List.map-append, lemmas.List.take_more, lemmas.List.Elements.All-head, lemmas.List.Elements.All-push, lemmas.List.Elements.All-tail, lemmas.List.Sums.sum-map, lemmas.List.Sums.sum_by-cons, lemmas.List.Sums.sum_by_more}
pub use Rattle.std.specs.List.{list_any, range_with_len}
pub use Rattle.store_model.proofs.Sound.{put, room_of, taken}
pub use Rattle.store_model.specs.Prelude.{bytes_of_key, cipher_usage, CipherEncrypt, compute_rows, Computed, computed_unless, count_persistent, counted, created, created_unless, decided, Destroy, destroy_rows, destroyed, encrypt_rows, encrypted, Entry, Export, export_reply, export_rows, given, has_secure_element, identified, Identifier, Import, is_ctr, is_volatile, is_volatile_of, iv_length, Key, live_volatile, mac_reply, mac_usage, MacCompute, made_of, mode_of, new_id, new_key, new_own, on_store, OnStore, Outcome, outcome_of, output_bytes, Own, own_of, Plain, recorded_of, refused, replies, Reply, reply_unless, Request, room_for_key_rows, serve, Served, Service, Settings, Store, use_rows, with_computed, with_drawn}
pub use Rattle.std.proofs.{lemmas.Bool.cond-false, lemmas.Bool.eqb-false, lemmas.Bool.false_from_ne_true, lemmas.List.FromFn.length-map-range_with_len, lemmas.List.FromFn.map-range_with_len_more}
pub use Rattle.std.proofs.Common.{All, Bool, List, None, Option, Some, [], ap, append_assoc, arith, codes, cond, count_by, false, is_some, length, map, not, refl, rules, subst, sym, true, ℕ, ◌++◌, ◌+◌, ◌-◌, ◌==◌, ◌∙◌, ◌∷◌, ◌≡◌}
