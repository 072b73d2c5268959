-- `into_memory` puts the size beside the pointer. Assumes `Logic`.
use Rattle.std.proofs.Common.{◌≡◌, ℕ, List, [], ◌∷◌, ◌++◌, refl, sym, w64}
use mir.Syntax.{Fn}
use mir.Val.{Val, vint}
use base.Logic.{SProp, emp}
use prog.Wp.{Env, WpFn}
use contract.Monad.{fact, fact_i}
use contract.Running.{tables}
use types.Kit.{‵, raw, ◌⊛◌, prop, ◌$◌, ◌∵◌, !, qed, by, move, drop, use0, split, rewrite, regoal, fsplit, fjoin}
use types.Part.{whole, sub, agg}
use types.Run.{stop, fld, of_opd, no_more, and_then, returns, enter}
use types.ByLocal.{alloc_all, pass_all, free_all, look_at, get, get_in, sets, env}
use denote.RattleType.{owns}
use denote.Signature.{types_at}
use denote.Steps.{nothing, heard}
use denote.Triple.Entry.{alive}
use denote.Triple.Walked.{Stays, stay_dropped, walk_of, Goes-dropped}
use Rattle.core.proofs.alloc.Calls.{Goes-blank}
use Rattle.std_alloc.proofs.ResultValues.{and_tt}
use Rattle.std.proofs.raw_atomic.Walks.{proved_at, leaves}
use Rattle.linked_list_allocator.proofs.Values.{ptr_typed, list_val, list_told, sized_val, sized_own, sized_made}
use Rattle.linked_list_allocator.proofs.Walks.{slot_at}
use Rattle.caller_memory.specs.Ownership.{bytes_at}
use Rattle.caller_memory.specs.contracts.memory.Memory as memory
use Rattle.caller_memory.specs.contracts.memory.Returned.into_memory.{ended, clauses}
use Rattle.caller_memory.specs.contracts.memory.Returned.into_memory.Key.{name as #self}
use Rattle.caller_memory.proofs.memory.Returned.into_memory.Statement.{statement}
use Rattle.caller_memory.proofs.memory.Returned.into_memory.Code as compiled

pub into_memory_spec : {M : Type 1} → statement M
into_memory_spec 𝓤 𝓛 𝓜 𝓡 wired =
    let H = 𝓛.H in
    let En₀ = ended in
    let c₀ = clauses 𝓛 𝓜.mem 𝓡.returns in
    let fn : Fn = compiled.function in
    let stays : Stays En₀.signature.params En₀.kept = (stay_dropped (slot_at 0 En₀.signature.params) En₀.kept.0, (stay_dropped (slot_at 1 En₀.signature.params) En₀.kept.1.0, tt)) in
    let c = c₀ in
    let C = (tables 𝓤 H 𝓜 𝓡 𝓡.env).C in
    let Λ = (tables 𝓤 H 𝓜 𝓡 𝓡.env).Λ in
    proved_at 𝓛 En₀ stays c 𝓜 𝓡 (Goes-blank 𝓛 0 (slot_at 0 En₀.signature.params) En₀.kept.0 (λ κs x f. tt), (Goes-dropped 𝓛 0 (slot_at 1 En₀.signature.params) En₀.kept.1.0 (λ κs x f. refl), tt)) #self fn (compiled.unfolded 𝓤 H 𝓜 𝓡 wired) (λ z are.
    let Post : Val → SProp 𝓤 = (walk_of 𝓛 En₀ stays c).post z in
    let a = z.0.3 in
    let vss = z.0.4 in
    let x = a.0 in
    let p = x.start in
    let n = a.1.0 in
    let told = list_told p vss.0 are.0.0 in
    let fits = are.1.0.1 in
    let Asked : Type 0 = n ≡ x.memory.size in
    qed 𝓛 ((raw (alive 𝓛 En₀.signature z.0.0 z.0.1) ⊛ ‵ (owns (types_at En₀.signature.params z.0.0) a vss)) ∷ raw (fact 𝓤 Asked) ∷ []) ∵ move ! (1 ∷ []) $ heard ! Asked (λ asked. split ! $ move ! (1 ∷ []) $
    fsplit ! $ fsplit ! $ drop ! $ move ! (1 ∷ []) $ drop ! $ rewrite ! 0 (λ (k : ℕ). ‵ (bytes_at p k)) (sym asked) refl $
    let y : (memory.the_row).Denot = record { start = p; size = n } in
    let same : y ≡ x.memory = λ i. record { start = x.begins i; size = asked i } in
    regoal ! (λ (us : List Val). prop (WpFn 𝓤 H C Λ fn us Post)) (λ i. told.0 i ++ (are.1.0.0 i ++ [])) refl $
    enter ! C Λ fn (list_val p ∷ vint w64 n ∷ []) Post $
    alloc_all ! (λ l. pass_all ! refl ((and_tt _ ((ptr_typed p).0), ((ptr_typed p).1, tt)), ((tt, record { fits = fits }), tt)) $ let En : Env 𝓤 𝓛.H = env fn.locals l in
    sets ! (of_opd ! (get_in ! (fld ! refl (stop !)) (sub ! 0 refl (whole !)))) refl (ptr_typed p) $
    sets ! (agg ! (and_then ! (get ! refl) (and_then ! (get ! refl) (no_more !)))) refl (and_tt _ ((ptr_typed p).0), ((ptr_typed p).1, (record { fits = fits }, tt))) $
    returns ! (look_at ! 0 refl) $ free_all ! refl $
    use0 𝓛 (‵ (sized_own p n (sized_val p n ∷ []))) (sized_made 𝓛 p n fits) $ fjoin ! $ use0 𝓛 (raw (fact 𝓤 (y ≡ x.memory))) (fact_i 𝓤 (y ≡ x.memory) (emp 𝓤) same) $ nothing ! $ nothing ! $ fjoin ! $ nothing ! $ fjoin ! $ move ! (3 ∷ 0 ∷ 2 ∷ 1 ∷ []) $
    by ! (leaves 𝓛 En₀ stays c z (sized_val p n) (y) (tt, (tt, tt)) (tt, (tt, tt))))))
