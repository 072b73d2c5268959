-- What memory and a block own.
use Rattle.std.specs.Prelude.{◌≡◌, ℕ, ◌/◌, List}
use mir.Syntax.{Ty, w128, ty_int, ty_array}
use mir.Val.{Val}
use base.Fraction.{full_share}
use base.Fml.{Lft, Fml, ffalse, fsep, fex, fwand}
use denote.RattleType.{RattleType}
use denote.Memory.{cell_at}
use denote.RawPtr.{Ptr, block_ptr, null_ptr, room_for}
use denote.Sharing.{said}
use denote.Hidden.{guarded}
use Rattle.caller_memory.specs.declared.memory.Memory.{Memory}

-- n bytes, as units of 16 that are aligned to 16
abbrev pub units_of : ℕ → Ty
units_of n = ty_array (ty_int w128) (n / 16)

-- room for them at p
abbrev pub bytes_at : Ptr → ℕ → Fml
bytes_at p n = room_for (units_of n) p

-- the right to give the block for a τ at p back for all of m
abbrev pub block_token : Memory → Ty → Ptr → Fml
block_token m τ p = fex (p ≡ m.start) (λ _. fwand (room_for τ p) (bytes_at p m.size))

module _ (F : RattleType) (I : F.Denot → Fml) where
  -- fields of which I holds, in memory
  abbrev pub fields_with : ℕ → ℕ → Fml
  fields_with b o =
      fex (List Val) (λ vs.
      fsep (cell_at full_share F.mir vs b o) (fex F.Denot (λ i. fsep (F.own_val i vs) (I i))))

  -- they are reached with the thread's token, and I holds again afterwards
  abbrev pub behind_a_ref : Ptr → Lft → Fml
  behind_a_ref (block_ptr b o) = guarded (b, o) (fields_with b o)
  behind_a_ref null_ptr = said ffalse
