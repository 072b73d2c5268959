-- A `&` to it is a borrow of the whole, which the thread's token opens. Assumes `Logic`.
use mathlib.Core.List.{[], ◌∷◌}
use base.Fraction.{full_share}
use base.Fml.{fbor}
use types.Logic.{lfts}
use types.Kit.{‵, raw, later, ◌$◌, ◌∵◌, !, qed, use1, await, updating, now, done}
use types.Na.{na_bor, bor_na}
use denote.Memory.{part_at, part_of}
use denote.Hidden.{guarded_shr_laws}
use Rattle.caller_memory.specs.contracts.slot.Slot as C
use Rattle.caller_memory.proofs.slot.Slot.TheLaw.Statement.{statement}

pub shares : statement
unfolding part_of
shares = record {
  shr_laws = λ d b o. guarded_shr_laws (b, o) (part_at C.the_written full_share d b o);
  shares = λ M 𝓤 𝓛 d κ ts b o inc sp.
      let P = part_at C.the_written full_share d b o in
      qed 𝓛 (‵ (fbor κ P) ∷ raw (lfts 𝓛 ts) ∷ []) ∵ updating ! $ use1 𝓛 (later (‵ (na_bor κ (b, o) P))) (bor_na 𝓛 κ (b, o) P) $ await ! tt $ now ! $ done !;
}
