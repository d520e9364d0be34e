-- Pieces that are appended to a text.

use Rattle.std.proofs.Common.{List, ap, ℕ, ◌++◌, ◌∙◌, ◌≡◌}

pub onto : (before after wanted piece : List ℕ) → after ≡ before ++ piece → before ≡ wanted → after ≡ wanted ++ piece
onto before after wanted piece is was = is ∙ ap (λ t. t ++ piece) was
