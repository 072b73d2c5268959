use Rattle.std.proofs.Common.{◌∙◌, ℕ, length, refl, sym}
use Rattle.codex32_calls.specs.declared.refusal.Refusal.TheVariants as refusals
use Rattle.codex32_calls.proofs.SameShares.{no_derive_fault}
use Rattle.codex32_small.proofs.Parts.{accepts-from_refused}
use Rattle.codex32_small.proofs.derive.derived.Goals as goal

pub returns-then-not-are_theirs-clause-refused : goal.returns-then-not-are_theirs-clause-refused
returns-then-not-are_theirs-clause-refused c = record { refusal = refusals.BadLengths; holds = sym c.are_theirs.ensures ∙ c.if-not-are_theirs.true; number = refl }

pub returns-in-Err-clause-refused : goal.returns-in-Err-clause-refused
returns-in-Err-clause-refused c = record {
  refusal = refusals.Header c.in-Err.e;
  holds = (sym c.are_theirs.ensures ∙ c.if-not-are_theirs.false, c.in-Err.ensures);
  number = c.from.ensures ∙ c.header_error_number.ensures.value;
}

pub returns-in-Ok-clause-accepts : goal.returns-in-Ok-clause-accepts
returns-in-Ok-clause-accepts c can =
    let room : ℕ = length c.args.text.now in
    let x : ℕ = c.args.share_index in
    accepts-from_refused c.put_derived.result _ c.put_derived.ensures.refused
    (λ n h.
    let f = h x can.asked c.in-Ok.ensures.1 in
    no_derive_fault x c.args.texts.now c.args.lengths.now room f.refusal can f.holds)
