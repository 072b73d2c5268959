-- No units are cut off; two pointers in one value. Assumes `Logic`.
use Rattle.std.proofs.Common.{◌≡◌, ℕ, ◌+◌, ◌*◌, ◌/◌, ◌≤◌, [], ◌∷◌, refl, sym, arith}
use seplogic.Ra.Ura.{Ura}
use base.Logic.{ent, sep, never_e}
use lib.Dec.{T}
use mathlib.Core.Bool.{◌&&◌, true}
use mir.Syntax.{w128, ty_int, ty_ptr, ty_array}
use base.Fml.{froom}
use mir.Val.{has_ty_of}
use types.Logic.{Logic, sem}
use types.Kit.{‵, ◌⊛◌, ◌$◌, ◌∵◌, !, qed, use1, split, rewrite, done}
use denote.RawPtr.{Ptr, block_ptr, null_ptr, ptr_val}
use Rattle.caller_memory.specs.Ownership.{bytes_at}
use Rattle.linked_list_allocator.proofs.Nodes.{cuts, fewer, resized}

pub cuts_none : {M : Type 1} {𝓤 : Ura M} (𝓛 : Logic 𝓤) (p : Ptr) (n : ℕ) → ent 𝓤 (sem 𝓛 (bytes_at p n)) (sep 𝓤 (sem 𝓛 (bytes_at p 0)) (sem 𝓛 (bytes_at p n)))
cuts_none 𝓛 (block_ptr b o) n =
    let none : o + 0 ≡ o = omega arith in
    qed 𝓛 (‵ (bytes_at (block_ptr b o) n) ∷ []) ∵ use1 𝓛 (‵ (bytes_at (block_ptr b o) (0 + n))) (resized 𝓛 b o n (0 + n) (omega arith)) $
    use1 𝓛 (‵ (bytes_at (block_ptr b o) 0) ⊛ ‵ (bytes_at (block_ptr b (o + 0)) n)) (cuts 𝓛 b o 0 n refl) $ split ! $
    rewrite ! 1 (λ (d : ℕ). ‵ (bytes_at (block_ptr b d) n)) none refl $ done !
cuts_none {𝓤 = 𝓤} 𝓛 null_ptr n = never_e 𝓤 _

pub typed_twice : (p : Ptr) → T ((has_ty_of ty_ptr (ptr_val p) && true) && ((has_ty_of ty_ptr (ptr_val p) && true) && true))
typed_twice (block_ptr b o) = tt
typed_twice null_ptr = tt

units : (n : ℕ) → n / 16 ≡ n / 16 * 16 / 16
units n = omega arith

-- the front of more units
pub front_of : {M : Type 1} {𝓤 : Ura M} (𝓛 : Logic 𝓤) (b o n m : ℕ) → n ≤ m → ent 𝓤 (sem 𝓛 (bytes_at (block_ptr b o) m)) (sem 𝓛 (bytes_at (block_ptr b o) n))
front_of {𝓤 = 𝓤} 𝓛 b o n m less =
    let k : ℕ = n / 16 * 16 in
    let l : ℕ = m / 16 * 16 in
    qed 𝓛 (‵ (bytes_at (block_ptr b o) m) ∷ []) ∵ rewrite ! 0 (λ (q : ℕ). ‵ (froom (ty_array (ty_int w128) q) b o)) (units m) refl $
    use1 𝓛 (‵ (bytes_at (block_ptr b o) k)) (fewer 𝓛 b o k l (omega arith) (omega arith)) $
    rewrite ! 0 (λ (q : ℕ). ‵ (froom (ty_array (ty_int w128) q) b o)) (sym (units n)) refl $ done !
