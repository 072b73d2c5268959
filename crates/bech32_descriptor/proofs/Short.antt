-- Texts from which no descriptor comes, since they are too short.
use Rattle.std.proofs.Common.{◌≡◌, ◌<◌, ℕ, List, [], ◌∷◌, length, map, sym, ap, subst, refl, arith}
use Rattle.std.proofs.Math.Decide.{dec_lt}
use Rattle.bech32_descriptor.specs.Edits.{IsMend, IsMendBefore, IsMendWithin, kind_of_change}
use Rattle.bech32_descriptor.specs.Mends.{AreMends, MayBeMended}
use Rattle.bech32_descriptor.specs.Pairs.{AreTwoMends, IsMendByTwo, IsTwoBefore}
use Rattle.bech32_descriptor.specs.declared.edits.Change.{Change}
use Rattle.bech32_descriptor.specs.declared.edits.Change.TheVariants.{Changed, LeftOut, PutIn, Swapped}
use Rattle.bech32_descriptor.specs.declared.edits.Edit.{Edit}
use Rattle.bech32_descriptor.specs.declared.edits.TwoEdits.{TwoEdits}
use Rattle.bech32_descriptor.proofs.Chance.{rarely_wrong}
use Rattle.bech32_descriptor.proofs.Listings.{nothing}
use Rattle.bech32_descriptor.proofs.Told.{none_changed, none_left_out, none_put_in, none_swapped}
use Rattle.bech32_descriptor.proofs.TwoChanges.{none_short}

none_from : (text : List ℕ) (e : Edit) → length text < 8 → IsMend text e → ⊥
none_from text e short m = by_change e.change refl
  where
    by_change : (c : Change) → e.change ≡ c → ⊥
    by_change (Changed b) is = none_changed text e (omega (arith, short)) (ap kind_of_change is, m)
    by_change Swapped is = none_swapped text e (omega (arith, short)) (ap kind_of_change is, m)
    by_change LeftOut is = none_left_out text e (omega (arith, short)) (ap kind_of_change is, m)
    by_change (PutIn b) is = none_put_in text e short (ap kind_of_change is, m)

-- one edit makes none of fewer than eight characters
pub no_mends : (most : ℕ) (text : List ℕ) → length text < 8 → AreMends most text []
no_mends most text short = record {
  short = omega (arith, short);
  edits = nothing IsMendBefore (IsMendWithin most text) (λ e h. none_from text e short h.1);
  texts = tt;
}

pub no_mends_of : {M : Type 0} (pair : M → Edit × List ℕ) (most : ℕ) (text : List ℕ) (found : List M) → length text < 8 → found ≡ [] → AreMends most text (map pair found)
no_mends_of {M} pair most text found short is = subst (λ (l : List M). AreMends most text (map pair l)) (sym is) (no_mends most text short)

-- two edits make none of fewer than nine
pub no_two_mends : (text : List ℕ) → length text < 9 → AreTwoMends text []
no_two_mends text short = record {
  short = omega (arith, short);
  rare = rarely_wrong (length text) (omega (arith, short));
  edits = nothing IsTwoBefore (IsMendByTwo text) (λ e h. none_short text e short h);
  texts = tt;
}

pub no_two_mends_of : {M : Type 0} (pair : M → TwoEdits × List ℕ) (text : List ℕ) (found : List M) → length text < 9 → found ≡ [] → AreTwoMends text (map pair found)
no_two_mends_of {M} pair text found short is = subst (λ (l : List M). AreTwoMends text (map pair l)) (sym is) (no_two_mends text short)

-- where one edit makes some, they may come from the text
pub some_mends : (most : ℕ) (text : List ℕ) (m : Edit × List ℕ) (ms : List (Edit × List ℕ)) → AreMends most text (m ∷ ms) → MayBeMended 8 7500 text
some_mends most text m ms are =
    elim (dec_lt (length text) 8) [
      | yes short ↦ absurd (none_from text m.0 short are.edits.each.0.1)
      | no more ↦ (omega (arith, more), are.short)
    ]
