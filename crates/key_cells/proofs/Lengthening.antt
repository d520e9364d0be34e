-- An older file is lengthened: its cells stay, within the calls and after them.
use Rattle.std.proofs.{Common.◌≡◌, Common.ℕ, Common.◌-◌, Common.◌≤◌, Common.List, Common.◌++◌, Common.length, Common.take, Common.replicate, Common.Option, Common.None, Common.Some, Common.IfSome, Common.Result, Common.Ok, Common.Err, Common.OnOk, Common.sym, Common.◌∙◌, Common.ap, Common.subst, Common.arith, lemmas.List.take_all}
use Rattle.disk_face.specs.{Disk.Elapses, Disk.NoNewImage, Disk.GrowsByZeros, Disk.HoldsWritten, Moments.Within}
use Rattle.disk_face.proofs.Moments.{within_one, within_more, within_both}
use Rattle.key_cells.specs.Growth.{zeros_of, Each, ReadsFilled}
use Rattle.key_cells.proofs.Stages.{filled}

pub fill_filled : {T E : Type 0} (result : Result T E) (told new : Option (List ℕ)) (old : ℕ) (piece : List ℕ) → 557120 ≤ old → old ≤ 2228288 → piece ≡ zeros_of (old - 557120)
    → OnOk result (HoldsWritten told 557120 piece new)
    → OnOk result ((bytes : List ℕ) → length bytes ≡ old → told ≡ Some (bytes ++ zeros_of (2228288 - old)) → ReadsFilled (Some bytes) new)
fill_filled (Err e) told new old piece low high are done = tt
fill_filled (Ok x) told new old piece low high are done = λ bytes long is.
    let held : HoldsWritten (Some (bytes ++ zeros_of (2228288 - old))) 557120 piece new = subst (λ (o : Option (List ℕ)). HoldsWritten o 557120 piece new) is done in
    held ∙ ap Some (filled 557120 2228288 old bytes piece low high long are)

-- a file that ends with its cells has nothing behind them
pub nothing_behind : (bytes : List ℕ) (old : ℕ) → length bytes ≡ old → old ≡ 557120 → bytes ++ zeros_of (2228288 - old) ≡ take 557120 bytes ++ zeros_of 1671168
nothing_behind bytes old long is =
    ap (λ (n : ℕ). bytes ++ zeros_of (2228288 - n)) is ∙ ap (λ (x : List ℕ). x ++ zeros_of 1671168) (sym (take_all 557120 bytes (omega (arith, long, is))))

pub sized : (told : Option (List ℕ)) (size old : ℕ) → IfSome told (λ bytes. length bytes ≡ size) → size ≡ old → 557120 ≤ old → old ≤ 2228288
    → IfSome told (λ bytes. (557120 ≤ length bytes) × (length bytes ≤ 2228288))
sized None size old measured is low high = tt
sized (Some bytes) size old measured is low high = (omega (arith, measured, is, low), omega (arith, measured, is, high))

read_lengthened : (bytes : List ℕ) (new : Option (List ℕ)) (s s' old : ℕ) → s ≡ old → s' ≡ 2228288 → GrowsByZeros (Some bytes) (s' - s) new → new ≡ Some (bytes ++ zeros_of (2228288 - old))
unfolding zeros_of
read_lengthened bytes new s s' old is is' grown = grown ∙ ap (λ (n : ℕ). Some (bytes ++ replicate n 0)) (ap (λ (x : ℕ). x - s) is' ∙ ap (λ (x : ℕ). 2228288 - x) is)

pub lengthened_filled : (told mid new last : Option (List ℕ)) (s s' old : ℕ) → IfSome told (λ bytes. length bytes ≡ s) → s ≡ old → s' ≡ 2228288 → GrowsByZeros told (s' - s) mid
    → ((bytes : List ℕ) → length bytes ≡ old → mid ≡ Some (bytes ++ zeros_of (2228288 - old)) → ReadsFilled (Some bytes) new) → last ≡ new → ReadsFilled told last
lengthened_filled None mid new last s s' old measured is is' grown fills same = tt
lengthened_filled (Some bytes) mid new last s s' old measured is is' grown fills same =
    same ∙ fills bytes (measured ∙ is) (read_lengthened bytes mid s s' old is is' grown)

-- a first call, and what follows
module _ (P : List ℕ → List ℕ → Type 0) (a b : ℕ) (sa sb : ℕ → List ℕ → Type 0) (may : List ℕ → Type 0) where
  pub first_within : (told : Option (List ℕ)) → Elapses a b sa sb may → IfSome told (λ bytes. Each may (P bytes)) → IfSome told (λ bytes. Within a b sa sb (P bytes))
  first_within None time each = tt
  first_within (Some bytes) time each = within_one a b sa sb (P bytes) may time each

  pub then_within : (told : Option (List ℕ)) (c : ℕ) (sc : ℕ → List ℕ → Type 0) → Elapses a b sa sb may → IfSome told (λ bytes. Each may (P bytes))
      → ((bytes : List ℕ) → Each may (P bytes) → Within b c sb sc (P bytes)) → IfSome told (λ bytes. Within a c sa sc (P bytes))
  then_within None c sc time each next = tt
  then_within (Some bytes) c sc time each next =
      within_both a b c sa sb sc (P bytes) (P bytes) (P bytes) (within_one a b sa sb (P bytes) may time each) (next bytes each) (λ image is. is) (λ image is. is)

pub more_within : (P : List ℕ → List ℕ → Type 0) (told : Option (List ℕ)) (a b c : ℕ) (sa sb sc : ℕ → List ℕ → Type 0) (may : List ℕ → Type 0)
    → IfSome told (λ bytes. Within a b sa sb (P bytes)) → Elapses b c sb sc may → IfSome told (λ bytes. Each may (P bytes)) → IfSome told (λ bytes. Within a c sa sc (P bytes))
more_within P None a b c sa sb sc may so_far time each = tt
more_within P (Some bytes) a b c sa sb sc may so_far time each = within_more a b c sa sb sc (P bytes) may so_far time each

pub each_then : (P : List ℕ → List ℕ → Type 0) (told : Option (List ℕ)) (may may' : List ℕ → Type 0) → IfSome told (λ bytes. Each may (P bytes)) → ((bytes : List ℕ) → Each may (P bytes) → Each may' (P bytes))
    → IfSome told (λ bytes. Each may' (P bytes))
each_then P None may may' each next = tt
each_then P (Some bytes) may may' each next = next bytes each

pub each_same : (P : List ℕ → List ℕ → Type 0) (told : Option (List ℕ)) (may may' : List ℕ → Type 0) → IfSome told (λ bytes. Each may (P bytes)) → NoNewImage may may' → IfSome told (λ bytes. Each may' (P bytes))
each_same P told may may' each none = each_then P told may may' each (λ bytes is image left. is image (none image left))

pub when_ok : {T E P : Type 0} (result : Result T E) → P → OnOk result P
when_ok (Ok x) is = is
when_ok (Err e) is = tt
