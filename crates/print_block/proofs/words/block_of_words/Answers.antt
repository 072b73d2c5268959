use Rattle.std.proofs.Common.{◌≢◌, length, sym, subst, rules}
use Rattle.std.proofs.lemmas.Result.{IfErr-weaker, IfOk-weaker, err_from_is_err_and}
use Rattle.bech32_block.specs.Roots.{RootField}
use Rattle.print_block.specs.Words.{AreElementsOf, IsOfAlphabet}
use Rattle.print_block.proofs.Blocks.{word_refused, elements_refused, elements_of_bytes, block_of_both}
use Rattle.print_block.proofs.words.block_of_words.Goals as goal

pub returns-in_err-generator-clause-refused : goal.returns-in_err-generator-clause-refused
returns-in_err-generator-clause-refused g c =
    let f : RootField _ = record { ops = g.E.Arithmetic.ops; same = g.E.PartialEq.eq; embed = g.E.Extension.embed; generator = g.E.Field.GENERATOR; order = g.E.Field.MULTIPLICATIVE_ORDER } in
    let some : length c.args.name.now ≢ 0 = search rules in
    let p = err_from_is_err_and c.from_residual.result c.from_residual.ensures.1 in
    rw p.1 (rw p.2 (word_refused f c.args.name.now c.args.generator.now c.args.target.now c.as_bytes.result.now c.in_err-generator.field-0.0 some (λ a b. subst IsOfAlphabet (sym c.as_bytes.ensures.value) a) c.in_err-generator.ensures.refused))

pub returns-in_err-target-clause-refused : goal.returns-in_err-target-clause-refused
returns-in_err-target-clause-refused g c =
    let f : RootField _ = record { ops = g.E.Arithmetic.ops; same = g.E.PartialEq.eq; embed = g.E.Extension.embed; generator = g.E.Field.GENERATOR; order = g.E.Field.MULTIPLICATIVE_ORDER } in
    let some : length c.args.name.now ≢ 0 = search rules in
    let p = err_from_is_err_and c.from_residual-in_err-target.result c.from_residual-in_err-target.ensures.1 in
    rw p.1 (rw p.2 (word_refused f c.args.name.now c.args.generator.now c.args.target.now c.as_bytes-2.result.now c.in_err-target.field-0.0 some (λ a b. subst IsOfAlphabet (sym c.as_bytes-2.ensures.value) b) c.in_err-target.ensures.refused))

pub returns-clause-block : goal.returns-clause-block
returns-clause-block g c =
    let f : RootField _ = record { ops = g.E.Arithmetic.ops; same = g.E.PartialEq.eq; embed = g.E.Extension.embed; generator = g.E.Field.GENERATOR; order = g.E.Field.MULTIPLICATIVE_ORDER } in
    let a : AreElementsOf c.args.generator.now c.deref.result.now = elements_of_bytes _ _ _ _ c.as_bytes.ensures.value c.deref.ensures.value c.in_ok-generator.ensures.value in
    let b : AreElementsOf c.args.target.now c.deref-2.result.now = elements_of_bytes _ _ _ _ c.as_bytes-2.ensures.value c.deref-2.ensures.value c.in_ok-target.ensures.value in
    IfOk-weaker c.block_of_elements.result _ _
    (λ text h. block_of_both f g.E.Bech32Field.rust_code g.E.NamedField.field_name c.args.name.now c.args.generator.now c.args.target.now _ c.deref.result.now c.deref-2.result.now a b h)
    c.block_of_elements.ensures.block

pub returns-clause-refused : goal.returns-clause-refused
returns-clause-refused g c =
    let f : RootField _ = record { ops = g.E.Arithmetic.ops; same = g.E.PartialEq.eq; embed = g.E.Extension.embed; generator = g.E.Field.GENERATOR; order = g.E.Field.MULTIPLICATIVE_ORDER } in
    let some : length c.args.name.now ≢ 0 = search rules in
    let a : AreElementsOf c.args.generator.now c.deref.result.now = elements_of_bytes _ _ _ _ c.as_bytes.ensures.value c.deref.ensures.value c.in_ok-generator.ensures.value in
    let b : AreElementsOf c.args.target.now c.deref-2.result.now = elements_of_bytes _ _ _ _ c.as_bytes-2.ensures.value c.deref-2.ensures.value c.in_ok-target.ensures.value in
    IfErr-weaker c.block_of_elements.result _ _
    (λ e h. elements_refused f c.args.name.now c.args.generator.now c.args.target.now c.deref.result.now c.deref-2.result.now e some a b h)
    c.block_of_elements.ensures.refused
