use Rattle.std.proofs.Common.{◌≡◌, ◌∙◌, ◌∷◌, ◌++◌, ℕ, List, Bool, cond, ap, sym, subst, arith}
use Rattle.bech32_bits.specs.Bits.{to_fes}
use Rattle.bech32_checksum.specs.Code.{Code, bech32, bech32m}
use Rattle.bech32_checksum.specs.Encoded.{IsEncodedText}
use Rattle.b32_replies.proofs.segwit_encode.append_by_version.Goals as goal

pub append_text-requires : goal.append_text-requires
append_text-requires c = record {
  size = omega (arith, c.requires.size, c.requires.short);
  short = omega (arith, c.requires.short);
  room = c.requires.room;
}

pub append_text-requires-else-eq : goal.append_text-requires-else-eq
append_text-requires-else-eq c = record {
  size = omega (arith, c.requires.size, c.requires.short);
  short = omega (arith, c.requires.short);
  room = c.requires.room;
}

pub returns-then-eq-clause-text : goal.returns-then-eq-clause-text
returns-then-eq-clause-text c =
    subst (λ (k : Code). (text : List ℕ) × IsEncodedText k c.args.hrp.now (c.args.version ∷ to_fes c.args.program.now) text × (c.append_text.new.out.items ≡ c.args.out.now.items ++ text))
    (sym (ap (λ (b : Bool). cond b bech32 bech32m) (sym c.eq.ensures ∙ c.if-eq.true))) c.append_text.ensures.text

pub returns-else-eq-clause-text : goal.returns-else-eq-clause-text
returns-else-eq-clause-text c =
    subst (λ (k : Code). (text : List ℕ) × IsEncodedText k c.args.hrp.now (c.args.version ∷ to_fes c.args.program.now) text × (c.append_text-else-eq.new.out.items ≡ c.args.out.now.items ++ text))
    (sym (ap (λ (b : Bool). cond b bech32 bech32m) (sym c.eq.ensures ∙ c.if-eq.false))) c.append_text-else-eq.ensures.text
