use Rattle.line_generator.proofs.Common.{bytes_text, reply_text, unranked_text, List, append_assoc, codes, refl, ℕ, ◌++◌, ◌≡◌}
use Rattle.std.specs.Fmt.{decimal}
use Rattle.psa_status.specs.Status.{status_name}
use Rattle.line_generator.proofs.laws.rank_stands_between.Goals as goal

ranked : (a b c d e f g h i : List ℕ) → a ++ b ++ c ++ d ++ e ++ f ++ g ++ h ++ i ≡ (a ++ b ++ c) ++ d ++ e ++ (f ++ g ++ h ++ i)
ranked a b c d e f g h i = simp (append_assoc {A = ℕ}) refl

unranked : (a b c f g h i : List ℕ) → a ++ b ++ c ++ f ++ g ++ h ++ i ≡ (a ++ b ++ c) ++ (f ++ g ++ h ++ i)
unranked a b c f g h i = simp (append_assoc {A = ℕ}) refl

pub returns : goal.returns
unfolding reply_text unranked_text
returns c line =
    let session = decimal line.session in
    let number = decimal line.number in
    let status = status_name line.status in
    let bytes = bytes_text line.bytes in (
      ranked session (codes ".") number (codes " @") (decimal line.rank) (codes " ") status bytes (codes "\n"),
      unranked session (codes ".") number (codes " ") status bytes (codes "\n"),
    )
