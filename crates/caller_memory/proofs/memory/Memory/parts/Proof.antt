-- `parts` reads a field, and cuts off no units. Assumes `Logic`.
use Rattle.std.proofs.Common.{◌≡◌, ◌<◌, ◌^◌, List, [], ◌∷◌, ◌++◌, refl, sym, lit<, w64}
use mir.Syntax.{Fn}
use mir.Val.{Val, vint}
use base.Logic.{SProp, emp}
use base.Fml.{ftrue}
use prog.Wp.{Env, WpFn}
use contract.Monad.{fact, fact_i}
use contract.Running.{tables}
use types.Kit.{‵, raw, ◌⊛◌, prop, ◌$◌, ◌∵◌, !, qed, by, move, drop, use0, use1, use2, split, regoal, fsplit, fjoin, feq_i, flt_i}
use types.Part.{whole, sub, agg}
use types.Run.{stop, fld, lit, of_opd, no_more, and_then, returns, enter}
use types.ByLocal.{alloc_all, pass_all, free_all, look_at, get, get_in, sets, env}
use denote.RattleType.{RattleType, owns}
use denote.Builtin.{usize}
use denote.Signature.{types_at}
use denote.Steps.{nothing}
use denote.Struct.Tuple.{Tuple}
use denote.Triple.Entry.{alive}
use denote.Triple.Walked.{Stays, stay_dropped, walk_of}
use Rattle.core.proofs.alloc.Calls.{Goes-blank}
use Rattle.std_alloc.proofs.ResultValues.{and_tt}
use Rattle.std_alloc.proofs.Pairs.{pair_of, pair_val}
use Rattle.std.proofs.raw_atomic.Walks.{proved_at, leaves}
use Rattle.linked_list_allocator.proofs.Values.{ptr_typed, sized_val, sized_own, sized_told, sized_made}
use Rattle.linked_list_allocator.proofs.Walks.{slot_at}
use Rattle.caller_memory.specs.Ownership.{bytes_at}
use Rattle.caller_memory.proofs.Cuts.{cuts_none, typed_twice}
use Rattle.caller_memory.specs.contracts.memory.Memory as memory
use Rattle.caller_memory.specs.contracts.memory.Memory.parts.{ended, clauses}
use Rattle.caller_memory.specs.contracts.memory.Memory.parts.Key.{name as #self}
use Rattle.caller_memory.proofs.memory.Memory.parts.Statement.{statement}
use Rattle.caller_memory.proofs.memory.Memory.parts.Code as compiled

pub parts_spec : {M : Type 1} → statement M
parts_spec 𝓤 𝓛 𝓜 𝓡 wired =
    let H = 𝓛.H in
    let En₀ = ended in
    let c₀ = clauses 𝓛 𝓜.mem 𝓡.returns in
    let fn : Fn = compiled.function in
    let stays : Stays En₀.signature.params En₀.kept = (stay_dropped (slot_at 0 En₀.signature.params) En₀.kept.0, tt) in
    let c = c₀ in
    let C = (tables 𝓤 H 𝓜 𝓡 𝓡.env).C in
    let Λ = (tables 𝓤 H 𝓜 𝓡 𝓡.env).Λ in
    proved_at 𝓛 En₀ stays c 𝓜 𝓡 (Goes-blank 𝓛 0 (slot_at 0 En₀.signature.params) En₀.kept.0 (λ κs x f. tt), tt) #self fn (compiled.unfolded 𝓤 H 𝓜 𝓡 wired) (λ z are.
    let Post : Val → SProp 𝓤 = (walk_of 𝓛 En₀ stays c).post z in
    let a = z.0.3 in
    let vss = z.0.4 in
    let x = a.0 in
    let p = x.start in
    let n = x.size in
    let told = sized_told p n vss.0 are.0.0 in
    let fits = told.1 in
    let none : (memory.the_row).Denot = record { start = p; size = 0 } in
    let same : n ≡ 0 → none ≡ x = λ e i. record { start = p; size = sym e i } in
    let small : 0 < 2 ^ 64 = lit< tt in
    let Both : RattleType = Tuple (memory.the_row ∷ memory.the_row ∷ []) in
    let two : Val = pair_val (sized_val p n) (sized_val p 0) in
    qed 𝓛 ((raw (alive 𝓛 En₀.signature z.0.0 z.0.1) ⊛ ‵ (owns (types_at En₀.signature.params z.0.0) a vss)) ∷ ‵ ftrue ∷ []) ∵ move ! (1 ∷ []) $ drop ! $ split ! $ move ! (1 ∷ []) $
    fsplit ! $ fsplit ! $ drop ! $ move ! (1 ∷ []) $ drop ! $ use1 𝓛 (‵ (bytes_at p 0) ⊛ ‵ (bytes_at p n)) (cuts_none 𝓛 p n) $ split ! $
    regoal ! (λ (us : List Val). prop (WpFn 𝓤 H C Λ fn us Post)) (λ i. told.0 i ++ []) refl $
    enter ! C Λ fn (sized_val p n ∷ []) Post $
    alloc_all ! (λ l. pass_all ! refl ((and_tt _ ((ptr_typed p).0), ((ptr_typed p).1, (record { fits = fits }, tt))), tt) $ let En : Env 𝓤 𝓛.H = env fn.locals l in
    sets ! (of_opd ! (get_in ! (fld ! refl (stop !)) (sub ! 0 refl (whole !)))) refl (ptr_typed p) $
    sets ! (of_opd ! (get_in ! (fld ! refl (stop !)) (sub ! 1 refl (whole !)))) refl (tt, record { fits = fits }) $
    sets ! (agg ! (and_then ! (get ! refl) (and_then ! (get ! refl) (no_more !)))) refl (and_tt _ ((ptr_typed p).0), ((ptr_typed p).1, (record { fits = fits }, tt))) $
    sets ! (agg ! (and_then ! (get ! refl) (and_then ! (lit ! tt) (no_more !)))) refl (and_tt _ ((ptr_typed p).0), ((ptr_typed p).1, (record { fits = small }, tt))) $
    sets ! (agg ! (and_then ! (get ! refl) (and_then ! (get ! refl) (no_more !)))) refl (typed_twice p, (((ptr_typed p).1, (record { fits = fits }, tt)), (((ptr_typed p).1, (record { fits = small }, tt)), tt))) $
    sets ! (agg ! (and_then ! (get ! refl) (and_then ! (get ! refl) (no_more !)))) refl (and_tt _ (typed_twice p), (record { fits = fits }, ((((ptr_typed p).1, (record { fits = fits }, tt)), (((ptr_typed p).1, (record { fits = small }, tt)), tt)), tt))) $
    returns ! (look_at ! 0 refl) $ free_all ! refl $
    use0 𝓛 (‵ (sized_own p 0 (sized_val p 0 ∷ []))) (sized_made 𝓛 p 0 small) $ fjoin ! $ move ! (1 ∷ []) $ use0 𝓛 (‵ (sized_own p n (sized_val p n ∷ []))) (sized_made 𝓛 p n fits) $ fjoin ! $
    use2 𝓛 (‵ (Both.own_val (x, none) (two ∷ []))) (pair_of 𝓛 memory.the_row memory.the_row x none (sized_val p n) (sized_val p 0)) $
    flt_i ! n (2 ^ 64) fits $ feq_i ! (List Val) (vint w64 n ∷ []) (vint w64 n ∷ []) refl $ fjoin ! $
    use2 𝓛 (‵ ((Tuple (usize ∷ Both ∷ [])).own_val (n, (x, none)) (pair_val (vint w64 n) two ∷ []))) (pair_of 𝓛 usize Both n (x, none) (vint w64 n) two) $
    use0 𝓛 (raw (fact 𝓤 ((n ≡ n) × (x ≡ x) × (0 ≡ 0) × (n ≡ 0 → none ≡ x)))) (fact_i 𝓤 ((n ≡ n) × (x ≡ x) × (0 ≡ 0) × (n ≡ 0 → none ≡ x)) (emp 𝓤) (refl, refl, refl, same)) $ nothing ! $ nothing ! $ fjoin ! $ move ! (3 ∷ 0 ∷ 2 ∷ 1 ∷ []) $
    by ! (leaves 𝓛 En₀ stays c z (pair_val (vint w64 n) two) (n, (x, none)) (tt, tt) (tt, tt))))
