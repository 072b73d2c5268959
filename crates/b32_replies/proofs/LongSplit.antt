-- Lines of long texts and of confidential addresses that ask for nothing.
use Rattle.std.specs.Str.{bytes_eq}
use Rattle.std.proofs.Common.{◌≡◌, ◌≢◌, ℕ, Bool, true, false, cond, List, [], ◌∷◌, refl, sym, subst, Option, None, codes}
use Rattle.std.proofs.lemmas.Bool.{false_from_ne_true}
use Rattle.std.proofs.lemmas.Slice.Eq.{bytes_eq-Decides}
use Rattle.b32_replies.specs.LongRequest.{LongRequest, long_request_of_words}

-- with no second word, or an empty one before it
pub long-no-word : (all : List (List ℕ)) → ((first second : List ℕ) (rest : List (List ℕ)) → all ≡ first ∷ second ∷ rest → first ≡ []) → long_request_of_words all ≡ None
long-no-word [] h = refl
long-no-word (x ∷ y ∷ more) h = let none : x ≡ [] = h x y more refl in subst (λ (w : List ℕ). long_request_of_words (w ∷ y ∷ more) ≡ None) (sym none) refl
long-no-word (x ∷ []) h =
    let last : cond (bytes_eq x (codes "liquid-decode")) None None ≡ None = one (bytes_eq x (codes "liquid-decode")) None refl in
    one (bytes_eq x (codes "encode")) _
    (one (bytes_eq x (codes "encode-elements")) _
    (one (bytes_eq x (codes "decode-strict")) _
    (one (bytes_eq x (codes "decode-elements")) _
    (one (bytes_eq x (codes "liquid-encode")) _ last))))
  where
    one : (b : Bool) (o : Option LongRequest) → o ≡ None → cond b None o ≡ None
    one true o e = refl
    one false o e = e

-- with another name
other : (name word : List ℕ) → name ≢ word → bytes_eq name word ≡ false
other name word differs = false_from_ne_true (bytes_eq name word) (λ t. differs ((bytes_eq-Decides name word).0 t))

pub long-other-name : (name : List ℕ) (others : List (List ℕ)) → name ≢ codes "encode" → name ≢ codes "encode-elements" → name ≢ codes "decode-strict" → name ≢ codes "decode-elements"
    → name ≢ codes "liquid-encode" → name ≢ codes "liquid-decode" → long_request_of_words (name ∷ others) ≡ None
long-other-name name others a b c d e f =
    rw (other name (codes "encode") a, other name (codes "encode-elements") b, other name (codes "decode-strict") c, other name (codes "decode-elements") d, other name (codes "liquid-encode") e, other name (codes "liquid-decode") f)
    refl
