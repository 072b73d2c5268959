use Rattle.bech32_packing.proofs.Packing.{AreWords, words_keep, words_pack}
use Rattle.bech32_packing.proofs.Words.pack.Goals as goal

pub returns-clause-laws : goal.returns-clause-laws
returns-clause-laws c =
    let g = c.args.generator.now in
    let t = c.args.target.now in
    let words : AreWords g t c.packed.result c.packed-2.result c.packed-3.result c.packed-4.result c.packed-5.result c.packed-6.result = record {
      first = c.packed.ensures;
      second = c.packed-2.ensures;
      third = c.packed-3.ensures;
      fourth = c.packed-4.ensures;
      fifth = c.packed-5.ensures;
      last = c.packed-6.ensures;
    } in
    words_keep g t _ _ _ _ _ _ words c.requires.some c.requires.few c.requires.as_many

pub returns-clause-packed : goal.returns-clause-packed
returns-clause-packed c = λ code_length.
    let g = c.args.generator.now in
    let t = c.args.target.now in
    let words : AreWords g t c.packed.result c.packed-2.result c.packed-3.result c.packed-4.result c.packed-5.result c.packed-6.result = record {
      first = c.packed.ensures;
      second = c.packed-2.ensures;
      third = c.packed-3.ensures;
      fourth = c.packed-4.ensures;
      fifth = c.packed-5.ensures;
      last = c.packed-6.ensures;
    } in
    words_pack g t _ _ _ _ _ _ words c.requires.as_many code_length
