use Rattle.std.proofs.Common.{◌∙◌, inl, inr, refl, ap}
use Rattle.caller_memory.specs.Memory.{memory_size}
use Rattle.bech32_calls.proofs.listed.give_memory_back.Goals as goal

pub returns-then-not-put_back : goal.returns-then-not-put_back
returns-then-not-put_back c =
    let h = c.put_back.ensures.kept c.if-not-put_back.true in
    inr ((h.0, ap memory_size h.1 ∙ c.requires.none), refl)

pub returns : goal.returns
returns c = inl (c.put_back.ensures.whole c.if-not-put_back.false, refl)
