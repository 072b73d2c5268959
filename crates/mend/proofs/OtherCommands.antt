-- Lines of confidential addresses and of descriptors.
use Rattle.std.specs.Str.{bytes_eq}
use Rattle.std.specs.Prelude.{◌+◌, length}
use Rattle.std.proofs.Common.{◌≡◌, ◌≢◌, ℕ, Bool, true, false, List, [], ◌∷◌, ◌++◌, refl, sym, ap, subst, ◌∙◌, cond, eqb, eq-eqb, Option, Some, None, codes, drop, MatchOption, Bor}
use Rattle.std.proofs.lemmas.Bool.{eqb-true}
use Rattle.line_program.specs.Words.{Reads}
use Rattle.mend.specs.Request.{MendRequest, behind, first_request, liquid_request, liquid_request_of}

-- ---- what stands behind a front

pub behind-front : (front rest : List ℕ) → behind front (front ++ rest) ≡ Some rest
behind-front [] rest = refl
behind-front (b ∷ bs) rest = rw (eq-eqb b b refl) (behind-front bs rest)

-- a line that has no such front has nothing behind it
pub behind-none : (front line : List ℕ) → ((rest : List ℕ) → line ≢ front ++ rest) → behind front line ≡ None
behind-none [] line h = absurd (h line refl)
behind-none (b ∷ bs) [] h = refl
behind-none (b ∷ bs) (c ∷ cs) h =
    step (eqb b c) refl (λ same. behind-none bs cs (λ rest is. h rest (ap (λ (x : ℕ). x ∷ cs) (sym same) ∙ ap (λ (l : List ℕ). b ∷ l) is)))
  where
    step : (t : Bool) → eqb b c ≡ t → (b ≡ c → behind bs cs ≡ None) → cond t (behind bs cs) None ≡ None
    step false e further = refl
    step true e further = further (eqb-true b c e)

-- ---- the first of two requests

pub first-some : (first second : Option MendRequest) (asked : MendRequest) → first ≡ Some asked → first_request first second ≡ Some asked
first-some first second asked e = ap (λ (o : Option MendRequest). first_request o second) e

pub first-none : (first second other : Option MendRequest) → first ≡ None → second ≡ other → first_request first second ≡ other
first-none first second other e f = ap (λ (o : Option MendRequest). first_request o second) e ∙ f

-- ---- `liquid`

-- with no second word, or an empty one before it
pub liquid-no-word : (all : List (List ℕ)) → ((first second : List ℕ) (rest : List (List ℕ)) → all ≡ first ∷ second ∷ rest → first ≡ []) → liquid_request_of all ≡ None
liquid-no-word [] h = refl
liquid-no-word (x ∷ []) h = either (bytes_eq x (codes "liquid"))
  where
    either : (b : Bool) → cond b (liquid_request []) None ≡ None
    either true = refl
    either false = refl
liquid-no-word (x ∷ y ∷ more) h =
    let none : x ≡ [] = h x y more refl in
    subst (λ (w : List ℕ). liquid_request_of (w ∷ y ∷ more) ≡ None) (sym none) refl

-- ---- what is read behind what asks for nothing

pub reads-behind : {C : Type 0} (asked : C → MendRequest) (first second : Option MendRequest) (read : Option C) → first ≡ None → Reads asked second read → Reads asked (first_request first second) read
reads-behind asked first second read e h = rw e h

-- what `strip_prefix` returns
pub stripped : (B : Type 0) (front line : List ℕ) (r : Option (Bor (List ℕ))) → MatchOption r ((rest : List ℕ) → line ≢ front ++ rest) (λ x. (n : ℕ) × ((n ≡ length front) × (line ≡ front ++ drop n line) × B) × (x.now ≡ drop n line) × (length x.now + n ≡ length line))
    → Reads (λ x. x.now) (behind front line) r
stripped B front line None h = behind-none front line (λ rest e. h rest e)
stripped B front line (Some x) (n, found, is, size) = ap (behind front) found.1 ∙ behind-front front (drop n line) ∙ ap (λ (l : List ℕ). Some l) (sym is)
