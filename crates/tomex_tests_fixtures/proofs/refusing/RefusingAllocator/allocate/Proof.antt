-- The budget is asked first. If it refuses, so does the call; else the inner allocator is asked.
use Rattle.tomex_tests_fixtures.proofs.Steps.{◌≡◌, Ok, Err, [], ◌∷◌, refl, w64, proved, Al, seen, token, Takes}
use Rattle.tomex_tests_fixtures.proofs.Steps.{at_takes, Takes-goes, Takes-gives, Answered, Answer, answer_val}
use Rattle.tomex_tests_fixtures.proofs.Steps.{Answer-typed, Answer-Ok, Answer-err, answers, ftrue, fsep, flft, ◌⊑◌}
use Rattle.tomex_tests_fixtures.proofs.Steps.{⊑_trans, fact, tables, usize, yes, bounded, uint_vals, uint_Tells}
use Rattle.tomex_tests_fixtures.proofs.Steps.{owns, block_ptr, shr_vals, plain, types_at, heard, nothing, calls_at}
use Rattle.tomex_tests_fixtures.proofs.Steps.{Ended, framed, Stays, stay_dropped, Goes-dropped, walk_of, ends_at}
use Rattle.tomex_tests_fixtures.proofs.Steps.{inst_fn, Args, Fn, a_type, dnil, dcons, Val, vint, size, align, capped}
use Rattle.tomex_tests_fixtures.proofs.Steps.{alloc_all, pass_all, free_all, look_at, get, through, sets, lands_as}
use Rattle.tomex_tests_fixtures.proofs.Steps.{‵, raw, ◌⊛◌, later, given, some, prop, Sq, ◌$◌, ◌∵◌, !, qed, done}
use Rattle.tomex_tests_fixtures.proofs.Steps.{move, keep, use0, use1, use2, split, join, fsplit, fjoin, await, learn}
use Rattle.tomex_tests_fixtures.proofs.Steps.{suffices, group, enter, addr, fld, stop, no_more, and_then, returns}
use Rattle.tomex_tests_fixtures.proofs.Steps.{after, block_if_ok, Bool, true, false, vbool, pick, at_ret, agg, lit}
use Rattle.tomex_tests_fixtures.proofs.Steps.{first, branches, skips, exec, returns_within, env}
use Rattle.tomex_tests_fixtures.proofs.Lending.{self, inner_at, budget_of, sees, lends_fields}
use Rattle.tomex_tests_fixtures.proofs.Asking.{Asks, asked, asks, tells}
use Rattle.tomex_tests_fixtures.proofs.budget.Budget.refuses.Met as refuses
use Rattle.tomex_tests_fixtures.specs.contracts.refusing.RefusingAllocator.allocate as f
use Rattle.tomex_tests_fixtures.specs.contracts.refusing.RefusingAllocator.allocate.Key as key
use Rattle.tomex_tests_fixtures.proofs.refusing.RefusingAllocator.allocate.Statement.{statement}
use Rattle.tomex_tests_fixtures.proofs.refusing.RefusingAllocator.allocate.Code as code

module _ (Z : Al) where
  abbrev T : Ended
  T = f.ended Z.row Z.g Z.d Z.drops

  -- nothing is left of a parameter at the return
  abbrev spent : Stays T.signature.params T.kept
  spent = (
    stay_dropped (self Z) yes,
    (stay_dropped (plain (λ _. usize)) yes, (stay_dropped (plain (λ _. usize)) yes, tt)),
  )

  abbrev args : Args
  args = bounded (a_type ∷ []) (Z.row, tt) (dcons Z.d (dcons Z.drops dnil))

  abbrev body : Fn
  body = inst_fn args code.function

pub allocate_spec : {M : Type 1} → statement M
allocate_spec 𝓤 𝓛 𝓜 𝓡 wired row laws ghosts dict drops met _ =
    let Z : Al = record { row = row; laws = laws; g = ghosts; d = dict; drops = drops } in
    let c = f.clauses row ghosts dict drops 𝓛 𝓜.mem 𝓡.returns in
    let W = walk_of 𝓛 (T Z) (spent Z) c in
    let 𝓣 = tables 𝓤 𝓛.H 𝓜 𝓡 𝓡.env in
    let number = Goes-dropped 𝓛 2 (plain (λ _. usize)) yes (λ κs x w. refl) in
    proved 𝓛 (T Z) (spent Z) c 𝓜 𝓡
    (Goes-dropped 𝓛 2 (self Z) yes (λ κs x w. refl), (number, (number, tt)))
    (key.name (args Z)) (body Z) (code.unfolded 𝓤 𝓛.H 𝓜 𝓡 wired (row, tt) dict drops)
    (λ κs. (shr_vals, (uint_vals w64, (uint_vals w64, tt))))
    (λ κs. ((λ r vs are. are.0), (uint_Tells w64, (uint_Tells w64, tt))))
    (λ κs qs bounds a τ are.
    let κ = κs.0 in let κ' = κs.1.0 in let q = qs.0 in let it = a.0.now.inner in let at = inner_at Z a.0 in
    let n = a.1.0 in let m = a.1.1.0 in
    let Fits = (capped (size τ) ≡ n) × (capped (align τ) ≡ m) in
    let y : W.Ghost = ((κs, qs, bounds, a, (shr_vals a.0, (vint w64 n ∷ [], (vint w64 m ∷ [], tt)))), τ) in
    let b = budget_of Z a.0 in let B = Asks 𝓛 𝓜.mem 𝓡.returns in let x = asked 𝓛 𝓜.mem 𝓡.returns κ q b in
    let G = Takes Z 𝓛 𝓜.mem 𝓡.returns in let z = at_takes Z 𝓛 𝓜.mem 𝓡.returns κ q at it n m τ in
    -- from the result and its block, beside the tokens, the contract's end
    let out : (v : Val) (r : Answer.Denot)
    → Sq 𝓛 (‵ (Answer.own_val r (v ∷ [])) ∷ ‵ (block_if_ok (token Z it) τ r) ∷ ‵ (flft κ q)
    ∷ ‵ (fsep (flft κ' qs.1.0) ftrue) ∷ []) (prop (W.post y v)) = λ v r.
    suffices ! _ (ends_at 𝓛 (T Z) (spent Z) c y v r (tt, (tt, (tt, tt))) (tt, (tt, (tt, tt)))) $
    nothing ! $ nothing ! $ fjoin ! $ nothing ! $ fjoin ! $ nothing ! $ fjoin ! $
    move ! (3 ∷ 4 ∷ []) $ join ! $ group ! 3 $ done ! in
    qed 𝓛 (((‵ (flft κ q) ⊛ ‵ (fsep (flft κ' qs.1.0) ftrue)) ⊛ ‵ (owns (types_at (T Z).signature.params κs) a y.0.4))
    ∷ (raw (fact 𝓤 (κ' ⊑ row.lives)) ⊛ raw (fact 𝓤 Fits)) ∷ []) ∵
    move ! (1 ∷ []) $ split ! $ heard ! (κ' ⊑ row.lives) (λ lives. heard ! Fits (λ fits.
    split ! $ split ! $ move ! (2 ∷ []) $ fsplit ! $
    use1 𝓛 (‵ (seen Z κ at it) ⊛ ‵ (sees κ b)) (lends_fields Z 𝓛 κ κ' a.0) $ split ! $
    keep ! (1 ∷ 3 ∷ 0 ∷ 4 ∷ []) $
    -- [the budget; the lifetime's token; the inner allocator; the other lifetime's token]
    enter ! _ _ (body Z) _ _ $ alloc_all !
    (λ l. pass_all ! refl ((tt, tt), ((tt, record { fits = are.1.0.1 }), ((tt, record { fits = are.1.1.0.1 }), tt)))
    $
    sets ! (addr ! (through ! refl (fld ! refl (stop !)))) refl (tt, tt) $
    use2 𝓛 (raw (B.pre x)) (asks 𝓛 𝓜.mem 𝓡.returns κ q b) $
    calls_at ! (framed 𝓤 𝓛.H 𝓜 𝓣) B (refuses.met 𝓤 𝓛 𝓜 𝓡 (code.calls-tomex_tests_fixtures::budget::Budget::refuses 𝓡.env wired))
    x
    (and_then ! (get ! refl) (no_more !)) (λ v.
    use1 𝓛 (later (some (λ (none_left : Bool). given (v ≡ vbool none_left) (‵ (flft κ q)))))
    (tells 𝓛 𝓜.mem 𝓡.returns κ q b v) $
    await ! tt $ pick ! (λ none_left. learn ! (λ e. lands_as ! e refl (tt, tt) $
    first ! $ branches ! (get ! refl)
    (λ _. sets ! (agg ! (no_more !)) refl (tt, tt) $
    sets ! (agg ! (and_then ! (lit ! tt) (and_then ! (get ! refl) (no_more !)))) refl (Answer-typed false 0 0) $
    returns_within ! (W.post y) refl (look_at ! 0 refl) $ free_all ! refl $
    keep ! (0 ∷ 2 ∷ []) $ nothing ! $ use0 𝓛 (‵ (Answer.own_val (Err (record {})) (answer_val false 0 0 ∷ [])))
    (Answer-err 𝓛) $ out (answer_val false 0 0) (Err (record {})))
    (λ _. skips ! $ exec ! 𝓣.C 𝓣.Λ (env (body Z).locals l) (after 3 (body Z).body) (at_ret _ (W.post y)) $
    sets ! (addr ! (through ! refl (fld ! refl (stop !)))) refl (tt, tt) $
    move ! (1 ∷ 0 ∷ []) $ use2 𝓛 (raw (G.pre z))
    (Takes-goes Z 𝓛 𝓜.mem 𝓡.returns κ q at it (⊑_trans κ κ' row.lives bounds.0 lives) n m τ fits.0 fits.1 are.1.0.1
    are.1.1.0.1) $
    calls_at ! (framed 𝓤 𝓛.H 𝓜 𝓣) G (met.allocate drops) z
    (and_then ! (get ! refl) (and_then ! (get ! refl) (and_then ! (get ! refl) (no_more !)))) (λ w.
    use1 𝓛 (later (raw (Answered Z 𝓛 𝓜.mem 𝓡.returns it τ w) ⊛ ‵ (flft κ q)))
    (Takes-gives Z 𝓛 𝓜.mem 𝓡.returns κ q at it n m τ w) $ await ! tt $ split ! $
    answers Z ! 𝓜.mem 𝓡.returns it τ w
    (λ at_block o granted. fjoin ! $ lands_as ! granted refl (Answer-typed true at_block o) $ returns !
    (look_at ! 0 refl) $ free_all ! refl $
    use0 𝓛 (‵ (Answer.own_val (Ok (block_ptr at_block o)) (answer_val true at_block o ∷ []))) (Answer-Ok 𝓛 at_block o) $
    out (answer_val true at_block o) (Ok (block_ptr at_block o)))
    (λ denied. lands_as ! denied refl (Answer-typed false 0 0) $ returns ! (look_at ! 0 refl) $ free_all ! refl $
    nothing ! $ use0 𝓛 (‵ (Answer.own_val (Err (record {})) (answer_val false 0 0 ∷ []))) (Answer-err 𝓛) $ out
    (answer_val false 0 0) (Err (record {}))))))))))))
