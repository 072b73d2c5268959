use Rattle.std.proofs.Common.{IfOk, IfErr, refl, sym, subst, string_bytes}
use Rattle.bech32_gf.specs.Fe32.{path, zero}
use Rattle.bech32_gf.specs.declared.gf32.Fe32.{Fe32}
use Rattle.bech32_hrp.specs.HrpBytes.{hrp_bytes}
use Rattle.bech32_decode.specs.Segwit.{IsAddress, IsLowerAddress}
use Rattle.bech32_segwit.specs.SegwitEncoding.{HasAddress, IsSegwitEncodeRefusal}
use Rattle.bech32_segwit.proofs.encode_v0_in.Goals as goal

pub returns-clause-text : goal.returns-clause-text
returns-clause-text g c =
    subst (λ (v : Fe32). IfOk c.encode_in.result (λ s. IsLowerAddress (hrp_bytes c.args.hrp) v c.args.witness_program.now (string_bytes s))) (path _ zero refl) c.encode_in.ensures.text

pub returns-clause-exists : goal.returns-clause-exists
returns-clause-exists g c a = c.encode_in.ensures.exists (subst (λ (v : Fe32). HasAddress (hrp_bytes c.args.hrp) v c.args.witness_program.now) (sym (path _ zero refl)) a)

pub returns-clause-refused : goal.returns-clause-refused
returns-clause-refused g c =
    subst (λ (v : Fe32). IfErr c.encode_in.result (λ e. IsSegwitEncodeRefusal (hrp_bytes c.args.hrp) v c.args.witness_program.now e)) (path _ zero refl) c.encode_in.ensures.refused

pub returns-clause-spelling : goal.returns-clause-spelling
returns-clause-spelling g c h t same a = c.encode_in.ensures.spelling h t same (subst (λ (v : Fe32). IsAddress h v c.args.witness_program.now t) (sym (path _ zero refl)) a)
