use Rattle.std.proofs.Common.{◌≡◌, ◌+◌, ◌-◌, ◌*◌, ◌<◌, ◌≤◌, ◌++◌, ◌∷◌, ℕ, List, length, ap, subst, sym, ◌∙◌, arith}
use Rattle.codex32.specs.Derive.{IsDerivedString}
use Rattle.codex32.specs.Share.{AreSharesOf, IsEither}
use Rattle.codex32.specs.Split.{first_texts, split_index, text_at}
use Rattle.codex32.proofs.TextAt.{first-same, slot-fits, text_at-behind, text_at-front}
use Rattle.codex32.proofs.dealing.put_others.Goals as goal

-- what stands in the front of texts
module _ (n m : ℕ) (texts front rest : List ℕ) (value : texts ≡ front ++ rest) (size : length front ≡ m * n) where
  in_front : (j : ℕ) → j < m → text_at n front j ≡ text_at n texts j
  in_front j less = sym (text_at-front n front rest j (omega (arith, slot-fits j m n less, size))) ∙ ap (λ (u : List ℕ). text_at n u j) (sym value)

  first_front : first_texts n front m ≡ first_texts n texts m
  first_front = first-same n front texts m in_front

pub put_given-requires-clause-base : goal.put_given-requires-clause-base
put_given-requires-clause-base c =
    let parts = c.split_at_mut-first.ensures in
    let n : ℕ = length c.args.own.now in
    let same : first_texts n c.split_at_mut-first.result.0.now c.args.drawn ≡ first_texts n c.args.texts.now c.args.drawn =
    first_front n c.args.drawn c.args.texts.now c.split_at_mut-first.result.0.now c.split_at_mut-first.result.1.now parts.value parts.front_len in
    record {
      own_is = c.requires.base.own_is;
      texts_are = λ j less.
          subst IsEither (sym (in_front n c.args.drawn c.args.texts.now c.split_at_mut-first.result.0.now c.split_at_mut-first.result.1.now parts.value parts.front_len j less)) (c.requires.base.texts_are j less);
      whole = λ base x are. c.requires.base.whole base x (subst (λ (us : List (List ℕ)). AreSharesOf (c.args.own.now ∷ us) base) same are);
      agree = λ base are. c.requires.base.agree base (subst (λ (us : List (List ℕ)). AreSharesOf (c.args.own.now ∷ us) base) same are);
    }

pub returns-clause-shares : goal.returns-clause-shares
returns-clause-shares c =
    let own = c.args.own.now in
    let n = length own in
    let m : ℕ = c.args.drawn in
    let front = c.split_at_mut-first.result.0.now in
    let rest = c.put_given.new.rest in
    let size = c.split_at_mut-first.ensures.front_len in
    let (base, are, derived) = c.put_given.ensures in
    let same : first_texts n front m ≡ first_texts n (front ++ rest) m = first-same n front (front ++ rest) m (λ j less. sym (text_at-front n front rest j (omega (arith, slot-fits j m n less, size)))) in (
      base,
      subst (λ (us : List (List ℕ)). AreSharesOf (own ∷ us) base) same are,
      λ j least less.
          let e : m + (j - m) ≡ j = omega (arith, least) in
          let within : j - m < c.args.count - m = omega (arith, least, less) in
          subst (λ (k : ℕ). IsDerivedString base (split_index k) (text_at n (front ++ rest) k)) e
          (subst (λ (u : List ℕ). IsDerivedString base (split_index (m + (j - m))) u) (sym (text_at-behind m n front rest (j - m) size)) (derived (j - m) within)),
    )

pub returns-clause-before : goal.returns-clause-before
returns-clause-before c = λ j less.
    let n = length c.args.own.now in
    let parts = c.split_at_mut-first.ensures in
    let front = c.split_at_mut-first.result.0.now in
    let fits : j * n + n ≤ length front = omega (arith, slot-fits j c.args.drawn n less, parts.front_len) in
    text_at-front n front c.put_given.new.rest j fits
    ∙ in_front n c.args.drawn c.args.texts.now front c.split_at_mut-first.result.1.now parts.value parts.front_len j less
