-- Edits and their texts, one after another.
use Rattle.std.specs.List.{AllByRecursion}
use Rattle.std.proofs.Common.{◌≡◌, ◌≤◌, ℕ, List, [], ◌∷◌, ◌++◌, length, map, subst, sym, ap, ◌∙◌, refl}
use Rattle.bech32_descriptor.specs.Edits.{AreAllMends, IsMendWithin, IsToldMend, made}
use Rattle.bech32_descriptor.specs.Mends.{AreMends}
use Rattle.bech32_descriptor.specs.Pairs.{AreAllByTwo, AreTwoMends, IsMendByTwo, made_by_two, max_length_for_two}
use Rattle.bech32_descriptor.specs.declared.edits.Edit.{Edit}
use Rattle.bech32_descriptor.specs.declared.edits.TwoEdits.{TwoEdits}
use Rattle.bech32_descriptor.proofs.Chance.{rarely_wrong}
use Rattle.bech32_descriptor.proofs.Listings.{all_weaker}

-- what is so of all of a list is so of each
pub all_within : {A : Type 0} (P : A → Type 0) (before : List A) (x : A) (behind : List A) → AllByRecursion P (before ++ x ∷ behind) → P x
all_within P [] x behind h = h.0
all_within P (y ∷ before) x behind h = all_within P before x behind h.1

all-push : {A : Type 0} (P : A → Type 0) (xs : List A) (x : A) → AllByRecursion P xs → P x → AllByRecursion P (xs ++ x ∷ [])
all-push P [] x h p = (p, tt)
all-push P (y ∷ xs) x h p = (h.0, all-push P xs x h.1 p)

map_behind : {M B : Type 0} (f : M → B) (xs : List M) (m : M) → map f (xs ++ m ∷ []) ≡ map f xs ++ f m ∷ []
map_behind f [] m = refl
map_behind f (x ∷ xs) m = ap (λ u. f x ∷ u) (map_behind f xs m)

-- with one text more, these are the texts of one edit more
pub texts_more : {M E : Type 0} (edit_in : M → E) (text_in : M → List ℕ) (made_of : E → List ℕ) (edits : List E) (edit : E) (before after : List M) (m : M)
    → edit_in m ≡ edit → text_in m ≡ made_of edit → after ≡ before ++ m ∷ []
    → (map edit_in before ≡ edits) × AllByRecursion (λ x. text_in x ≡ made_of (edit_in x)) before
    → (map edit_in after ≡ edits ++ edit ∷ []) × AllByRecursion (λ x. text_in x ≡ made_of (edit_in x)) after
texts_more {M} {E} edit_in text_in made_of edits edit before after m same is behind (listed, all) = (
  ap (map edit_in) behind ∙ map_behind edit_in before m ∙ ap (λ u. u ++ edit_in m ∷ []) listed ∙ ap (λ u. edits ++ u ∷ []) same,
  subst (λ (u : List M). AllByRecursion (λ x. text_in x ≡ made_of (edit_in x)) u) (sym behind)
      (all-push (λ x. text_in x ≡ made_of (edit_in x)) before m all (is ∙ ap (λ (e : E). made_of e) (sym same))),
)

pub all_told : (most : ℕ) (text : List ℕ) (edits : List Edit) → AllByRecursion (IsMendWithin most text) edits → AllByRecursion (λ e. IsToldMend e text) edits
all_told most text edits h = all_weaker (IsMendWithin most text) (λ e. IsToldMend e text) edits (λ e m. m.1.0) h

-- edits with their texts
pair_edits : {M E : Type 0} (edit_in : M → E) (text_in : M → List ℕ) (found : List M) → map (λ (m : E × List ℕ). m.0) (map (λ m. (edit_in m, text_in m)) found) ≡ map edit_in found
pair_edits edit_in text_in [] = refl
pair_edits edit_in text_in (m ∷ found) = ap (λ u. edit_in m ∷ u) (pair_edits edit_in text_in found)

pair_texts : {M E : Type 0} (edit_in : M → E) (text_in : M → List ℕ) (made_of : E → List ℕ) (found : List M) → AllByRecursion (λ m. text_in m ≡ made_of (edit_in m)) found
    → AllByRecursion (λ (m : E × List ℕ). m.1 ≡ made_of m.0) (map (λ m. (edit_in m, text_in m)) found)
pair_texts edit_in text_in made_of [] h = tt
pair_texts edit_in text_in made_of (m ∷ found) h = (h.0, pair_texts edit_in text_in made_of found h.1)

pub are_mends : {M : Type 0} (edit_in : M → Edit) (text_in : M → List ℕ) (most : ℕ) (text : List ℕ) (edits : List Edit) (found : List M) → length text ≤ 7500 → AreAllMends (IsMendWithin most text) edits
    → map edit_in found ≡ edits → AllByRecursion (λ m. text_in m ≡ made (edit_in m) text) found → AreMends most text (map (λ m. (edit_in m, text_in m)) found)
are_mends edit_in text_in most text edits found short all same each = record {
  short = short;
  edits = subst (AreAllMends (IsMendWithin most text)) (sym (pair_edits edit_in text_in found ∙ same)) all;
  texts = pair_texts edit_in text_in (λ e. made e text) found each;
}

pub are_two_mends : {M : Type 0} (edits_in : M → TwoEdits) (text_in : M → List ℕ) (text : List ℕ) (edits : List TwoEdits) (found : List M) → length text ≤ max_length_for_two → AreAllByTwo (IsMendByTwo text) edits
    → map edits_in found ≡ edits → AllByRecursion (λ m. text_in m ≡ made_by_two (edits_in m) text) found → AreTwoMends text (map (λ m. (edits_in m, text_in m)) found)
are_two_mends edits_in text_in text edits found short all same each = record {
  short = short;
  rare = rarely_wrong (length text) short;
  edits = subst (AreAllByTwo (IsMendByTwo text)) (sym (pair_edits edits_in text_in found ∙ same)) all;
  texts = pair_texts edits_in text_in (λ e. made_by_two e text) found each;
}
