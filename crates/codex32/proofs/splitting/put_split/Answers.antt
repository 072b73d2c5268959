use Rattle.std.proofs.Common.{◌≡◌, ◌-◌, ◌<◌, ℕ, List, length, take, subst, ◌∙◌}
use Rattle.codex32.specs.HeaderParts.{threshold_number}
use Rattle.codex32.specs.Split.{IsPayloadString, drawn_for, payload_count, split_index, string_size, text_at}
use Rattle.codex32.specs.declared.identifier.Identifier.{Identifier}
use Rattle.codex32.specs.declared.threshold.Threshold.{Threshold}
use Rattle.codex32.proofs.MadeTexts.{either-from_made, made-own}
use Rattle.codex32.proofs.SplitBase.{base-agree, base-whole}
use Rattle.codex32.proofs.SplitMade.{first-made, split-from_others}
use Rattle.codex32.proofs.SplitRefusals.{can-split}
use Rattle.codex32.proofs.splitting.put_split.Goals as goal

-- of the number that a call returned
counted : (t : Threshold) (i : Identifier) (secret random texts : List ℕ) (m : ℕ) → m ≡ payload_count (length secret)
    → ((j : ℕ) → j < threshold_number t - 1 → IsPayloadString t i (split_index j) (drawn_for m random j) (text_at (string_size m) texts j)) → (j : ℕ) → j < threshold_number t - 1
    → IsPayloadString t i (split_index j) (drawn_for (payload_count (length secret)) random j) (text_at (string_size (payload_count (length secret))) texts j)
counted t i secret random texts m e are j less = subst (λ (k : ℕ). IsPayloadString t i (split_index j) (drawn_for k random j) (text_at (string_size k) texts j)) e (are j less)

pub put_others-requires-clause-base : goal.put_others-requires-clause-base
put_others-requires-clause-base c =
    let can = can-split c.args.threshold (length c.args.secret.now) c.args.count c.args.random.now (length c.args.texts.now) c.requires.fine in
    let own : List ℕ = take c.put_own-size.result c.put_own-size.new.room in
    let are = counted c.args.threshold c.args.identifier c.args.secret.now c.args.random.now c.put_all_drawn.new.texts c.payload_size.result c.payload_size.ensures.value c.put_all_drawn.ensures in
    let made = first-made c.args.threshold c.args.identifier c.args.secret.now c.args.random.now own c.args.count (length c.args.texts.now) can c.put_own-size.ensures.own c.drawn_count.result c.put_all_drawn.new.texts c.drawn_count.ensures.value are in
    record {
      own_is = either-from_made _ _ _ _ _ _ (made-own c.args.threshold c.args.identifier c.args.secret.now own can.counted c.put_own-size.ensures.own);
      texts_are = λ j less.
          let text = made.texts_are j less in
          either-from_made c.args.threshold c.args.identifier (split_index j) text.0 (length own) (text_at (length own) c.put_all_drawn.new.texts j) text.1;
      whole = λ base x shares. base-whole c.args.threshold c.args.identifier (length own) own c.put_all_drawn.new.texts c.drawn_count.result made base x shares;
      agree = λ base shares. base-agree c.args.threshold c.args.identifier (length own) own c.put_all_drawn.new.texts c.drawn_count.result made base shares;
    }

pub returns : goal.returns
returns c =
    let can = can-split c.args.threshold (length c.args.secret.now) c.args.count c.args.random.now (length c.args.texts.now) c.requires.fine in
    let own : List ℕ = take c.put_own-size.result c.put_own-size.new.room in
    let are = counted c.args.threshold c.args.identifier c.args.secret.now c.args.random.now c.put_all_drawn.new.texts c.payload_size.result c.payload_size.ensures.value c.put_all_drawn.ensures in
    let size = c.put_others.auto.texts ∙ c.put_all_drawn.auto.texts ∙ c.requires.size in
    let (base, shares, behind) = c.put_others.ensures.shares in
    split-from_others c.args.threshold c.args.identifier c.args.secret.now c.args.random.now own c.args.count (length c.args.texts.now) can c.put_own-size.ensures.own c.drawn_count.result c.put_all_drawn.new.texts c.drawn_count.ensures.value are
    c.put_others.new.texts base size c.put_others.ensures.before shares behind
