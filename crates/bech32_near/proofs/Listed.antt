-- Edits and their texts, one after another.
use Rattle.std.specs.List.{AllByRecursion}
use Rattle.std.proofs.Common.{◌≡◌, ℕ, List, [], ◌∷◌, ◌++◌, map, inl, subst, sym, ap, ◌∙◌, refl}
use Rattle.bech32_poly.specs.Distinct.{IsAmong}
use Rattle.bech32_bch.proofs.Places.{all_push, mem_right}
use Rattle.bech32_near.specs.edits.Walks.{IsMadeText}
use Rattle.bech32_near.specs.declared.edits.edit.Edit.{Edit}

-- what is so of all of a list is so of each
pub all_within : {A : Type 0} (P : A → Type 0) (before : List A) (x : A) (behind : List A) → AllByRecursion P (before ++ x ∷ behind) → P x
all_within P [] x behind h = h.0
all_within P (y ∷ before) x behind h = all_within P before x behind h.1

map_behind : {M B : Type 0} (f : M → B) (xs : List M) (m : M) → map f (xs ++ m ∷ []) ≡ map f xs ++ f m ∷ []
map_behind f [] m = refl
map_behind f (x ∷ xs) m = ap (λ u. f x ∷ u) (map_behind f xs m)

-- with one text more, these are the texts of one edit more
pub texts_more : {M : Type 0} (edit_in : M → Edit) (text_in : M → List ℕ) (text : List ℕ) (edits : List Edit) (edit : Edit) (before after : List M) (m : M)
    → edit_in m ≡ edit → IsMadeText edit text (text_in m)
    → after ≡ before ++ m ∷ [] → (map edit_in before ≡ edits) × AllByRecursion (λ x. IsMadeText (edit_in x) text (text_in x)) before
    → (map edit_in after ≡ edits ++ edit ∷ []) × AllByRecursion (λ x. IsMadeText (edit_in x) text (text_in x)) after
texts_more {M} edit_in text_in text edits edit before after m same made behind (listed, all) = (
  ap (map edit_in) behind ∙ map_behind edit_in before m ∙ ap (λ u. u ++ edit_in m ∷ []) listed ∙ ap (λ u. edits ++ u ∷ []) same,
  subst (λ (u : List M). AllByRecursion (λ x. IsMadeText (edit_in x) text (text_in x)) u) (sym behind)
      (all_push (λ x. IsMadeText (edit_in x) text (text_in x)) before m all (subst (λ (u : Edit). IsMadeText u text (text_in m)) (sym same) made)),
)

-- an item between others is one of the list
pub between : (before : List Edit) (x : Edit) (behind whole : List Edit) → before ++ x ∷ behind ≡ whole → IsAmong x whole
between before x behind whole e = subst (λ (u : List Edit). IsAmong x u) e (mem_right x before (x ∷ behind) (inl refl))
