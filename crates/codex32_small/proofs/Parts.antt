-- Sets of parts, as sets of their shares.
use Rattle.std.specs.Prelude.{IfErr, IsOk}
use Rattle.std.specs.List.{AllByRecursion}
use Rattle.std.proofs.Common.{◌≡◌, ◌≤◌, ◌∙◌, ◌++◌, ℕ, suc, zero, List, [], ◌∷◌, Result, Ok, Err, length, map, take, get_or, refl, sym, ap, subst, arith}
use Rattle.std.proofs.lemmas.List.{length-map, map-append}
use Rattle.bech32_gf.specs.Fe32.{elements_of}
use Rattle.bech32_gf.specs.declared.gf32.Fe32.{Fe32}
use Rattle.codex32.specs.Derive.{AreOfSet, IsOfSet, IsUnshared, count_of, indices_of, rows_of, size_of}
use Rattle.codex32.specs.HeaderParts.{points_of, secret_index}
use Rattle.codex32.specs.Share.{AreSharesOf, characters_of_share, index_of_share}
use Rattle.codex32.specs.declared.share.Share.{Share}
use Rattle.codex32_calls.specs.Derive.{texts_of}
use Rattle.codex32_small.specs.Parts.{share_of_part, shares_of}
use Rattle.codex32_small.specs.declared.part.Part.{Part}

-- what polynomials through shares see of a part
abbrev pub index_of_part : Part → Fe32
index_of_part p = index_of_share (share_of_part p)

abbrev pub characters_of_part : Part → List ℕ
characters_of_part p = characters_of_share (share_of_part p)

pub length-shares : (ps : List Part) → length (shares_of ps) ≡ length ps
length-shares ps = length-map ps share_of_part

pub indices-parts : (ps : List Part) → indices_of (shares_of ps) ≡ map index_of_part ps
indices-parts [] = refl
indices-parts (p ∷ ps) = ap (λ (l : List Fe32). index_of_part p ∷ l) (indices-parts ps)

pub rows-parts : (ps : List Part) → rows_of (shares_of ps) ≡ map (λ t. elements_of (characters_of_part t)) ps
rows-parts [] = refl
rows-parts (p ∷ ps) = ap (λ (l : List (List Fe32)). elements_of (characters_of_part p) ∷ l) (rows-parts ps)

pub shares-take : (n : ℕ) (ps : List Part) → shares_of (take n ps) ≡ take n (shares_of ps)
shares-take zero ps = refl
shares-take (suc n) [] = refl
shares-take (suc n) (p ∷ ps) = ap (λ (l : List Share). share_of_part p ∷ l) (shares-take n ps)

pub shares-append : (ps qs : List Part) → shares_of (ps ++ qs) ≡ shares_of ps ++ shares_of qs
shares-append ps qs = map-append share_of_part ps qs

-- ---- the set of the first

all-shares : (s : Share) (ps : List Part) → AllByRecursion (λ p. IsOfSet s (share_of_part p)) ps → AllByRecursion (IsOfSet s) (shares_of ps)
all-shares s [] h = tt
all-shares s (p ∷ ps) h = (h.0, all-shares s ps h.1)

all-parts : (s : Share) (ps : List Part) → AllByRecursion (IsOfSet s) (shares_of ps) → AllByRecursion (λ p. IsOfSet s (share_of_part p)) ps
all-parts s [] h = tt
all-parts s (p ∷ ps) h = (h.0, all-parts s ps h.1)

pub set-from_parts : (ps : List Part) (first : Part) → 1 ≤ length ps → first ≡ get_or ps 0 first → AllByRecursion (λ p. IsOfSet (share_of_part first) (share_of_part p)) ps → AreOfSet (shares_of ps)
set-from_parts [] first some is h = tt
set-from_parts (q ∷ ps) first some is h =
    all-shares (share_of_part q) (q ∷ ps) (subst (λ (f : Part). AllByRecursion (λ p. IsOfSet (share_of_part f) (share_of_part p)) (q ∷ ps)) is h)

pub parts-from_set : (ps : List Part) (first : Part) → 1 ≤ length ps → first ≡ get_or ps 0 first → AreOfSet (shares_of ps) → AllByRecursion (λ p. IsOfSet (share_of_part first) (share_of_part p)) ps
parts-from_set [] first some is h = absurd (omega (arith, some))
parts-from_set (q ∷ ps) first some is h =
    subst (λ (f : Part). AllByRecursion (λ p. IsOfSet (share_of_part f) (share_of_part p)) (q ∷ ps)) (sym is) (all-parts (share_of_part q) (q ∷ ps) h)

pub count-parts : (ps : List Part) (first : Part) → 1 ≤ length ps → first ≡ get_or ps 0 first → count_of (shares_of ps) ≡ points_of first.header.threshold
count-parts [] first some is = absurd (omega (arith, some))
count-parts (q ∷ ps) first some is = ap (λ (f : Part). points_of f.header.threshold) (sym is)

pub unshared-parts : (ps : List Part) (first : Part) (x : Fe32) → 1 ≤ length ps → first ≡ get_or ps 0 first → (first.header.threshold.number ≡ 0) × (x ≡ secret_index → ⊥) → IsUnshared (shares_of ps) x
unshared-parts [] first x some is h = absurd (omega (arith, some))
unshared-parts (q ∷ ps) first x some is h = (ap (λ (f : Part). f.header.threshold.number) (sym is) ∙ h.0, h.1)

pub parts-unshared : (ps : List Part) (first : Part) (x : Fe32) → 1 ≤ length ps → first ≡ get_or ps 0 first → IsUnshared (shares_of ps) x → (first.header.threshold.number ≡ 0) × (x ≡ secret_index → ⊥)
parts-unshared [] first x some is h = absurd h
parts-unshared (q ∷ ps) first x some is h = (ap (λ (f : Part). f.header.threshold.number) is ∙ h.0, h.1)

pub size-parts : (ps : List Part) (first : Part) → 1 ≤ length ps → first ≡ get_or ps 0 first → length first.characters.now ≡ size_of (shares_of ps)
size-parts [] first some is = absurd (omega (arith, some))
size-parts (q ∷ ps) first some is = ap (λ (f : Part). length f.characters.now) is

-- ---- texts

pub none_of : (texts ns : List ℕ) → length ns ≡ 0 → AreSharesOf (texts_of texts ns) []
none_of texts [] none = tt
none_of texts (n ∷ ns) none = absurd (omega (arith, none))

pub accepts-from_refused : (r : Result ℕ ℕ) (P : ℕ → Type 0) → IfErr r P → ((n : ℕ) → P n → ⊥) → IsOk r
accepts-from_refused (Ok n) P h never = refl
accepts-from_refused (Err e) P h never = absurd (never e h)
