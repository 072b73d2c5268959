-- The two cases of what `take` gave, and all of a memory as room for a type. Assumes `Logic`.
use Rattle.std.proofs.Common.{◌≡◌, ℕ, ◌*◌, ◌/◌, ◌^◌, ◌<◌, ◌≤◌, List, [], ◌∷◌, ◌++◌, IfSome, None, Some, refl, sym, ap, subst, ◌∙◌, arith}
use seplogic.Ra.Ura.{Ura}
use mir.Syntax.{Ty, Width, w8, w16, w32, w64, w128, ty_int, ty_array}
use mir.Val.{Val, vcons, vnil, of_list, bytes}
use base.Logic.{ent, sep, id⊢, never}
use base.Fml.{fwand, froom}
use prog.Memory.{size, capped}
use prog.Align.{Dv, align_w, align-bytes}
use prog.Capped.{capped_is, capped_small}
use types.Logic.{Logic, sem}
use types.Kit.{Item, Goal, Seq, ‵, ◌⊛◌, ◌$◌, ◌∵◌, !, qed, move, drop, use1, split, frame, rewrite, fsplit, fpick, fpack, feq_l, done}
use types.Match.{live}
use denote.RattleType.{RattleType}
use denote.RawPtr.{Ptr, block_ptr, in_a_block}
use denote.Shadow.{pure_l}
use denote.Steps.{only}
use Rattle.core.specs.contracts.option.Option as option
use Rattle.caller_memory.specs.Lent.{FitsIn}
use Rattle.caller_memory.specs.Ownership.{bytes_at, block_token}
use Rattle.caller_memory.specs.declared.memory.Memory.{Memory}
use Rattle.caller_memory.specs.contracts.memory.Memory as memory
use Rattle.linked_list_allocator.proofs.Values.{sized_val, sized_own, sized_told}
use Rattle.linked_list_allocator.proofs.Nodes.{retypes}

abbrev pub Taken : RattleType
Taken = option.the_row memory.the_row

abbrev pub Told : Memory → ℕ → ℕ → Taken.Denot → Type 0
Told r n a x = IfSome x (λ m. (m ≡ r) × FitsIn r n a)

divides_16 : (w : Width) → Dv (bytes w) 16
divides_16 w8 = tt
divides_16 w16 = tt
divides_16 w32 = tt
divides_16 w64 = tt
divides_16 w128 = tt

abbrev unit : Ty
unit = ty_int w128

pub hands_out : {M : Type 1} {𝓤 : Ura M} (𝓛 : Logic 𝓤) (r : Memory) (τ : Ty) (b o n : ℕ) → capped (size τ) ≡ n → block_ptr b o ≡ r.start → n ≤ r.size / 16 * 16 → n < 2 ^ 63
    → ent 𝓤 (sem 𝓛 (bytes_at (block_ptr b o) r.size)) (sep 𝓤 (𝓛.H.room τ b o) (sem 𝓛 (block_token r τ (block_ptr b o))))
hands_out {𝓤 = 𝓤} 𝓛 r τ b o n sized begins fits small =
    let p : Ptr = block_ptr b o in
    let short : size τ < 2 ^ 63 = capped_small (size τ) (omega arith) in
    let same : n ≡ size τ = sym sized ∙ capped_is (size τ) (omega arith) in
    let k : ℕ = r.size / 16 * 16 in
    let units : r.size / 16 ≡ k / 16 = omega arith in
    qed 𝓛 (‵ (bytes_at p r.size) ∷ []) ∵ rewrite ! 0 (λ (q : ℕ). ‵ (froom (ty_array unit q) b o)) units refl $
    use1 𝓛 (‵ (froom τ b o) ⊛ ‵ (fwand (froom τ b o) (bytes_at p k)))
    (retypes 𝓛 b τ o k (omega arith) (omega arith) (subst (λ (j : ℕ). Dv j 16) (sym (align-bytes τ)) (divides_16 (align_w τ)))) $ split ! $
    rewrite ! 1 (λ (q : ℕ). ‵ (fwand (froom τ b o) (froom (ty_array unit q) b o))) (sym units) refl $ frame ! $
    fpack ! (p ≡ r.start) (λ _. fwand (froom τ b o) (bytes_at p r.size)) begins $ done !

module _ {M : Type 1} {𝓤 : Ura M} {𝓛 : Logic 𝓤} {K : Type 0} {Γ : List (Item 𝓤)} {G : Goal 𝓤 𝓛.H} where
  pub taken : K → (r : Memory) (n a : ℕ) (x : Taken.Denot) (v : Val) → Told r n a x
      → ((b o : ℕ) → block_ptr b o ≡ r.start → r.size < 2 ^ 64 → n ≤ r.size / 16 * 16 → n < 2 ^ 63 → v ≡ live 1 (vcons (sized_val (block_ptr b o) r.size) vnil)
      → Seq K 𝓛 (‵ (bytes_at (block_ptr b o) r.size) ∷ Γ) G) → (v ≡ live 0 vnil → Seq K 𝓛 Γ G) → Seq K 𝓛 (‵ (Taken.own_val x (v ∷ [])) ∷ Γ) G
  taken t r n a None v told some none =
      fpick t (λ us. fsplit t $ feq_l t (λ is. fpick t (λ vss. fsplit t $ feq_l t (λ is'. drop t $ none (ap only is ∙ ap (λ (ws : List Val). live 0 (of_list ws)) is')))))
  taken t r n a (Some w) v told some none =
      fpick t (λ us. fsplit t $ feq_l t (λ is. fpick t (λ vss. fsplit t $ feq_l t (λ is'. fsplit t $ move t (1 ∷ []) $ drop t $ fsplit t $ pure_l t (sized_own w.start w.size vss.0) (λ s.
      let parts = sized_told w.start w.size vss.0 s in
      rewrite t 0 (λ (u : Memory). ‵ (bytes_at u.start u.size)) told.0 refl $
      in_a_block t r.start (λ (p : Ptr). bytes_at p r.size) (id⊢ 𝓤 (never 𝓤)) (λ b o at.
      some b o (sym at) (subst (λ (m : Memory). m.size < 2 ^ 64) told.0 parts.1) told.1.0 told.1.1
      (ap only is ∙ ap (λ (xs : List Val). live 1 (of_list xs)) (is' ∙ ap (λ (xs : List Val). xs ++ []) parts.0) ∙ (λ i. live 1 (vcons (sized_val ((told.0 i).start) ((told.0 i).size)) vnil)) ∙ (λ i. live 1 (vcons (sized_val (at i) r.size) vnil)))))))))
