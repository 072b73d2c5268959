use Rattle.std.proofs.Common.{refl, take, ◌∙◌}
use Rattle.bech32_gf.specs.Fe32.{path}
use Rattle.codex32.specs.HeaderParts.{secret_index}
use Rattle.codex32.specs.Split.{IsOwnString}
use Rattle.codex32.proofs.MadeTexts.{made-own}
use Rattle.codex32.proofs.dealing.put_own.Goals as goal

pub returns-clause-own : goal.returns-clause-own
returns-clause-own c = record {
  header = c.header_at-header.result;
  header_is = record {
    threshold_is = c.header_at-header.ensures.threshold_is;
    identifier_is = c.header_at-header.ensures.identifier_is;
    share_index_is = c.header_at-header.ensures.share_index_is ∙ path _ secret_index refl;
  };
  is_encoded = c.in-Ok.ensures.text;
}

pub returns-clause-size : goal.returns-clause-size
returns-clause-size c =
    let own : IsOwnString c.args.threshold c.args.identifier c.args.secret.now (take c.in-Ok.count c.encode_into.new.buffer) = returns-clause-own c in
    c.in-Ok.ensures.put.count_is ∙ (made-own c.args.threshold c.args.identifier c.args.secret.now (take c.in-Ok.count c.encode_into.new.buffer) c.requires.counted own).size
