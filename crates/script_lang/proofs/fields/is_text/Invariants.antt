use Rattle.std.proofs.Common.{slice_index, ℕ, ◌<◌, ◌≡◌}
use Rattle.script_lang.proofs.fields.is_text.Given as goal

abbrev pub invariant-loop-place : goal.invariant-loop-place
invariant-loop-place l = (k : ℕ) → k < l.place → slice_index l.text k ≡ slice_index l.other k
