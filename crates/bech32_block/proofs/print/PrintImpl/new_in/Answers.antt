use Rattle.std.proofs.Common.{ap}
use Rattle.bech32_block.specs.Block.{block_text}
use Rattle.bech32_block.specs.Constants.{Constants}
use Rattle.bech32_block.proofs.print.PrintImpl.new_in.Goals as goal

pub returns-clause-block : goal.returns-clause-block
returns-clause-block g c =
    let r = c.in_ok-of_generator.field-0 in
    let w = c.pack.result in
    let constants : Constants _ = record { base = r.base; start = r.start; end = r.end; code_length = r.code_length; words = w.generator; target = w.target } in
    record {
      constants = constants;
      are_constants = record {
        degree = c.if-generator-eq1.false;
        split = c.in_ok-of_generator.ensures.split;
        series = c.in_ok-of_generator.ensures.series;
        packing_laws = c.pack.ensures.laws;
        packed = c.pack.ensures.packed r.code_length;
        lawful_roots = c.in_ok-of_generator.ensures.lawful c.args.target.now;
      };
      text_is = ap (λ field. block_text g.E.Bech32Field.rust_code field c.args.name.now c.args.generator.now c.args.target.now constants) c.field_name.ensures;
    }
