use Rattle.std.proofs.Common.{ℕ, List, Option, None, Some, MatchOption, refl}
use Rattle.bech32_checksum.specs.Code.{Code}
use Rattle.bech32_decode.specs.Acceptance.{Accepts}
use Rattle.bech32_calls.specs.Check.{IsCheckFault, IsCheckedAs}
use Rattle.bech32_calls.specs.Checksums.{code_of_text_number}
use Rattle.bech32_calls.proofs.ByNumber.{no_fault_of_texts}
use Rattle.bech32_calls.proofs.Checking.{no_check_fault}
use Rattle.bech32_calls.proofs.Stands.{accepted-stands, fault-stands}
use Rattle.bech32_small.proofs.Numbers.{not_zero}
use Rattle.bech32_small.proofs.fault.number_of.Goals as goal

-- a text with the lengths of its parts is accepted
accepted : (text : List ℕ) (m n : ℕ) (o : Option Code) → MatchOption o ⊥ (IsCheckedAs text m n) → MatchOption o ⊥ (λ code. Accepts code text)
accepted text m n None h = absurd h
accepted text m n (Some code) h = (h.hrp, h.data_part, h.accepted)

pub returns-in-Ok : goal.returns-in-Ok
returns-in-Ok c = record {
  value = λ none. accepted c.args.text.now _ _ (code_of_text_number c.args.checksum) c.in-Ok.ensures;
  accepts = λ takes. refl;
  refused = λ some. absurd (some refl);
  stands = accepted-stands c.args.text.now;
}

pub returns-in-Err : goal.returns-in-Err
returns-in-Err c =
    let text = c.args.text.now in
    let fault = c.in-Err.ensures in
    record {
      value = λ none. absurd (not_zero c.in-Err.number fault none);
      accepts = λ takes. absurd (no_fault_of_texts (λ code. Accepts code text) (IsCheckFault text) fault.refusal
          (λ code. no_check_fault text code fault.refusal) c.args.checksum takes fault.holds);
      refused = λ some. fault;
      stands = fault-stands text c.args.checksum fault.refusal c.in-Err.number fault.number fault.holds;
    }
