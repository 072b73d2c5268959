-- What was put is a split, and its shares recover the secret.
use Rattle.std.specs.List.{list_all}
use Rattle.std.specs.Prelude.{◌||◌, nat_lt}
use Rattle.std.proofs.Common.{◌≡◌, ℕ, zero, suc, ◌-◌, ◌*◌, ◌<◌, ◌≤◌, true, List, ◌∷◌, length, inl, inr, refl, sym, ap, subst, ◌∙◌, arith}
use Rattle.std.proofs.lemmas.Bool.{cases_lt}
use Rattle.bech32_bits.specs.Bits.{to_fes}
use Rattle.codex32.specs.Derive.{IsDerivedString}
use Rattle.codex32.specs.Encode.{is_long_payload_count, is_payload_count}
use Rattle.codex32.specs.HeaderParts.{secret_index, threshold_number}
use Rattle.codex32.specs.Share.{AreSharesOf}
use Rattle.codex32.specs.Split.{IsOwnString, IsPayloadString, IsSplit, Recovers, drawn_for, first_texts, payload_count, split_index, string_size, text_at, text_size}
use Rattle.codex32.specs.declared.identifier.Identifier.{Identifier}
use Rattle.codex32.specs.declared.share.Share.{Share}
use Rattle.codex32.specs.declared.threshold.Threshold.{Threshold}
use Rattle.codex32.proofs.DealtTexts.{length-drawn}
use Rattle.codex32.proofs.MadeTexts.{IsMade, made-drawn, made-own, same_size, sized}
use Rattle.codex32.proofs.Recovery.{recovers}
use Rattle.codex32.proofs.SplitBase.{AreMade, text-derived}
use Rattle.codex32.proofs.SplitRefusals.{CanSplit}
use Rattle.codex32.proofs.TextAt.{first-same, length-text_at}

positive : (n : ℕ) → (n ≡ 0 → ⊥) → 1 ≤ n
positive zero h = absurd (h refl)
positive (suc n) h = omega arith

module _ (t : Threshold) (i : Identifier) (secret random own : List ℕ) (count room : ℕ) (can : CanSplit t (length secret) count random room) (is_own : IsOwnString t i secret own) where
  abbrev m : ℕ
  m = payload_count (length secret)

  pub length-own : length own ≡ text_size (length secret)
  length-own = (made-own t i secret own can.counted is_own).size

  -- share number j, whose payload is drawn
  drawn_made : (n : ℕ) (texts : List ℕ) (j : ℕ) → n ≡ text_size (length secret) → j < threshold_number t - 1 → IsPayloadString t i (split_index j) (drawn_for m random j) (text_at n texts j)
      → IsMade t i (split_index j) (drawn_for m random j) n (text_at n texts j)
  drawn_made n texts j n_is less is =
      let all : (threshold_number t - 1) * m ≤ length random = let e = can.random_is in omega (arith, e) in
      let size : length (drawn_for m random j) ≡ m = length-drawn (text_at m random j) ∙ length-text_at (threshold_number t - 1) m random j all less in
      let counted : is_payload_count (length (drawn_for m random j)) || is_long_payload_count (length (drawn_for m random j)) ≡ true =
      ap (λ (k : ℕ). is_payload_count k || is_long_payload_count k) size ∙ (sized (length secret) can.counted).counted in
      subst (λ (k : ℕ). IsMade t i (split_index j) (drawn_for m random j) k (text_at n texts j)) (ap string_size size ∙ same_size (length secret) can.counted ∙ sym n_is)
      (made-drawn t i (split_index j) (drawn_for m random j) (text_at n texts j) counted is)

  pub are-made : (n d : ℕ) (texts : List ℕ) → n ≡ text_size (length secret) → d ≡ threshold_number t - 1
      → ((j : ℕ) → j < threshold_number t - 1 → IsPayloadString t i (split_index j) (drawn_for m random j) (text_at n texts j)) → AreMade t i n own texts d
  are-made n d texts n_is d_is are =
      let number : threshold_number t ≡ 0 → ⊥ = can.shared in
      let some : 1 ≤ threshold_number t = positive (threshold_number t) number in
      record {
        payload = to_fes secret;
        own_is = subst (λ (k : ℕ). IsMade t i secret_index (to_fes secret) k own) (sym n_is) (made-own t i secret own can.counted is_own);
        texts_are = λ j less. let within : j < threshold_number t - 1 = omega (arith, less, d_is) in (drawn_for m random j, drawn_made n texts j n_is within (are j within));
        few = let a = can.enough in let b = can.few in omega (arith, a, b, d_is);
        counted = omega (arith, some, d_is);
      }

  -- ---- the others behind these

  module _ (d : ℕ) (texts : List ℕ) (d_is : d ≡ threshold_number t - 1) (are : (j : ℕ) → j < threshold_number t - 1 → IsPayloadString t i (split_index j) (drawn_for m random j) (text_at (string_size m) texts j)) where
    drawn_at : (j : ℕ) → j < threshold_number t - 1 → IsPayloadString t i (split_index j) (drawn_for m random j) (text_at (length own) texts j)
    drawn_at j less =
        subst (λ (k : ℕ). IsPayloadString t i (split_index j) (drawn_for m random j) (text_at k texts j)) (same_size (length secret) can.counted ∙ sym length-own) (are j less)

    pub first-made : AreMade t i (length own) own texts d
    first-made = are-made (length own) d texts length-own d_is drawn_at

    pub split-from_others : (new : List ℕ) (base : List Share) → length new ≡ count * text_size (length secret) → ((j : ℕ) → j < d → text_at (length own) new j ≡ text_at (length own) texts j)
        → AreSharesOf (own ∷ first_texts (length own) new d) base → ((j : ℕ) → d ≤ j → j < count → IsDerivedString base (split_index j) (text_at (length own) new j))
        → IsSplit t i secret random count (text_size (length secret)) new
    split-from_others new base size before shares behind =
        let same : first_texts (length own) new d ≡ first_texts (length own) texts d = first-same (length own) new texts d before in
        let old : AreSharesOf (own ∷ first_texts (length own) texts d) base = subst (λ (us : List (List ℕ)). AreSharesOf (own ∷ us) base) same shares in
        let split : IsSplit t i secret random count (length own) new =
        record {
          size = size ∙ ap (λ (k : ℕ). count * k) (sym length-own);
          n_is = length-own;
          own = own;
          is_own = is_own;
          are_drawn = λ j less.
              let within : j < d = omega (arith, less, d_is) in
              subst (IsPayloadString t i (split_index j) (drawn_for m random j)) (sym (before j within)) (drawn_at j less);
          base = base;
          are_base = subst (λ (k : ℕ). AreSharesOf (own ∷ first_texts (length own) new k) base) d_is shares;
          are_derived = λ j less.
              elim (cases_lt j d) [
                | inl within ↦ subst (λ (u : List ℕ). IsDerivedString base (split_index j) u) (sym (before j within)) (text-derived t i (length own) own texts d first-made base j old within)
                | inr past ↦ behind j past less
              ];
        } in
        subst (λ (k : ℕ). IsSplit t i secret random count k new) length-own split

-- ---- they recover the secret

pub recovers-from_split : (t : Threshold) (i : Identifier) (secret random : List ℕ) (count n room : ℕ) (texts : List ℕ) → CanSplit t (length secret) count random room → list_all (λ b. nat_lt b 256) secret ≡ true
    → IsSplit t i secret random count n texts → Recovers t i secret count n texts
recovers-from_split t i secret random count n room texts can bytes split =
    let own_made : IsMade t i secret_index (to_fes secret) n split.own =
    subst (λ (k : ℕ). IsMade t i secret_index (to_fes secret) k split.own) (sym split.n_is) (made-own t i secret split.own can.counted split.is_own) in
    let made : AreMade t i n split.own texts (threshold_number t - 1) = are-made t i secret random split.own count room can split.is_own n (threshold_number t - 1) texts split.n_is refl split.are_drawn in
    recovers t i secret count n split.own texts (threshold_number t - 1) split.base bytes split.is_own own_made made split.are_base split.are_derived
