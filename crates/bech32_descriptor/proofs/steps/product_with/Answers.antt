use Rattle.bech32_descriptor.proofs.TimesPowers.{product_clear, product_is, product_sum}
use Rattle.bech32_descriptor.proofs.steps.product_with.Goals as goal

pub returns : goal.returns
returns c = rw c.to_u8.ensures (record {
  row = record {
    elements_are = product_is c.args.element;
    clear = product_clear c.args.element.value c.args.element.in_field;
  };
  words = product_sum c.args.element.value c.args.element.in_field;
})
