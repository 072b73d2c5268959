use Rattle.std.proofs.Common.{refl, sym, subst}
use Rattle.std.proofs.lemmas.Bool.{false≢true}
use Rattle.bech32_descriptor.specs.Descriptor.{IsDescriptor}
use Rattle.bech32_descriptor.proofs.Told.{left_not_told, left_told}
use Rattle.bech32_descriptor.proofs.walks.left_out_at.Goals as goal

pub returns-then-is_at : goal.returns-then-is_at
returns-then-is_at c = left_not_told c.args.text.now c.args.place (λ q. q.0 (c.if-is_at.ensures.0 refl))

pub returns-then-not-is_right : goal.returns-then-not-is_right
returns-then-not-is_right c =
    left_not_told c.args.text.now c.args.place (λ q. false≢true (c.if-not-is_right.ensures.1 (subst IsDescriptor (sym c.requires.rest) q.1)))

pub returns : goal.returns
returns c =
    left_told c.args.text.now c.args.place c.requires.within
    ((λ at. false≢true (c.if-is_at.ensures.1 at)), subst IsDescriptor c.requires.rest (c.if-not-is_right.ensures.0 refl))
