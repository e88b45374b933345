-- A block goes back to the inner allocator, which granted it.
use Rattle.tomex_tests_fixtures.proofs.Steps.{◌≡◌, List, [], ◌∷◌, refl, w64, proved, Al, seen, token, Gives, at_gives}
use Rattle.tomex_tests_fixtures.proofs.Steps.{Gives-goes, Gives-Gives, ftrue, fsep, flft, ◌⊑◌, ⊑_trans, fact, tables}
use Rattle.tomex_tests_fixtures.proofs.Steps.{usize, RawPtr, yes, bounded, uint_vals, uint_Tells, owns, Ptr}
use Rattle.tomex_tests_fixtures.proofs.Steps.{block_ptr, rawptr_vals, rawptr_Tells, in_a_block, room_for, shr_vals}
use Rattle.tomex_tests_fixtures.proofs.Steps.{plain, heard, nothing, calls_at, Ended, framed, Stays, stay_dropped}
use Rattle.tomex_tests_fixtures.proofs.Steps.{Goes-dropped, walk_of, ends_at, inst_fn, Args, Fn, a_type, dnil, dcons}
use Rattle.tomex_tests_fixtures.proofs.Steps.{Val, vunit, vint, vptr, size, align, capped, alloc_all, pass_all}
use Rattle.tomex_tests_fixtures.proofs.Steps.{free_all, look_at, get, through, sets, lands_as, ‵, raw, ◌⊛◌, later}
use Rattle.tomex_tests_fixtures.proofs.Steps.{given, prop, regoal, ◌$◌, ◌∵◌, !, qed, done, move, keep, use1, split}
use Rattle.tomex_tests_fixtures.proofs.Steps.{join, fsplit, fjoin, feq_i, await, learn, suffices, group, enter}
use Rattle.tomex_tests_fixtures.proofs.Steps.{of_opd, addr, fld, stop, unit_lit, no_more, and_then, returns, never}
use Rattle.tomex_tests_fixtures.proofs.Steps.{fst∗, sem, WpFn, types_at, null_ptr, ptr_val}
use Rattle.tomex_tests_fixtures.proofs.Lending.{self, inner_at, budget_of, sees, lends_fields}
use Rattle.tomex_tests_fixtures.specs.contracts.refusing.RefusingAllocator.deallocate as f
use Rattle.tomex_tests_fixtures.specs.contracts.refusing.RefusingAllocator.deallocate.Key as key
use Rattle.tomex_tests_fixtures.proofs.refusing.RefusingAllocator.deallocate.Statement.{statement}
use Rattle.tomex_tests_fixtures.proofs.refusing.RefusingAllocator.deallocate.Code as code

module _ (Z : Al) where
  abbrev T : Ended
  T = f.ended Z.row Z.g Z.d Z.drops

  -- nothing is left of a parameter at the return
  abbrev spent : Stays T.signature.params T.kept
  spent = (
    stay_dropped (self Z) yes,
    (
      stay_dropped (plain (λ _. RawPtr)) yes,
      (stay_dropped (plain (λ _. usize)) yes, (stay_dropped (plain (λ _. usize)) yes, tt)),
    ),
  )

  abbrev args : Args
  args = bounded (a_type ∷ []) (Z.row, tt) (dcons Z.d (dcons Z.drops dnil))

  abbrev body : Fn
  body = inst_fn args code.function

pub deallocate_spec : {M : Type 1} → statement M
deallocate_spec 𝓤 𝓛 𝓜 𝓡 wired row laws ghosts dict drops met _ =
    let Z : Al = record { row = row; laws = laws; g = ghosts; d = dict; drops = drops } in
    let c = f.clauses row ghosts dict drops 𝓛 𝓜.mem 𝓡.returns in
    let W = walk_of 𝓛 (T Z) (spent Z) c in
    let 𝓣 = tables 𝓤 𝓛.H 𝓜 𝓡 𝓡.env in
    let number = Goes-dropped 𝓛 2 (plain (λ _. usize)) yes (λ κs x w. refl) in
    proved 𝓛 (T Z) (spent Z) c 𝓜 𝓡 (
      Goes-dropped 𝓛 2 (self Z) yes (λ κs x w. refl),
      (Goes-dropped 𝓛 2 (plain (λ _. RawPtr)) yes (λ κs x w. refl), (number, (number, tt))),
    )
    (key.name (args Z)) (body Z) (code.unfolded 𝓤 𝓛.H 𝓜 𝓡 wired (row, tt) dict drops)
    (λ κs. (shr_vals, (rawptr_vals, (uint_vals w64, (uint_vals w64, tt)))))
    (λ κs. ((λ r vs are. are.0), (rawptr_Tells, (uint_Tells w64, (uint_Tells w64, tt)))))
    (λ κs qs bounds a τ are.
    let κ = κs.0 in let κ' = κs.1.0 in let q = qs.0 in let it = a.0.now.inner in let at = inner_at Z a.0 in
    let n = a.1.1.0 in let m = a.1.1.1.0 in
    let Fits = (capped (size τ) ≡ n) × (capped (align τ) ≡ m) in
    let held = λ (x : Ptr). fsep (room_for τ x) (token Z it τ x) in
    let y : Ptr → W.Ghost = λ x. (
      (
        κs,
        qs,
        bounds,
        (a.0, (x, a.1.1)),
        (shr_vals a.0, (rawptr_vals x, (vint w64 n ∷ [], (vint w64 m ∷ [], tt)))),
      ),
      τ,
    ) in
    let G = Gives Z 𝓛 𝓜.mem 𝓡.returns in let z = at_gives Z 𝓛 𝓜.mem 𝓡.returns κ q at it in
    qed 𝓛 (((‵ (flft κ q) ⊛ ‵ (fsep (flft κ' qs.1.0) ftrue)) ⊛ ‵
    (owns (types_at (T Z).signature.params κs) a (y a.1.0).0.4))
    ∷ (raw (fact 𝓤 (κ' ⊑ row.lives)) ⊛ raw (fact 𝓤 Fits) ⊛ ‵ (held a.1.0)) ∷ []) ∵
    move ! (1 ∷ []) $ split ! $ heard ! (κ' ⊑ row.lives) (λ lives. split ! $ heard ! Fits (λ fits.
    in_a_block ! a.1.0 held (fst∗ 𝓤 (never 𝓤) (sem 𝓛 (token Z it τ null_ptr))) (λ b o e.
    regoal ! (λ (x : Ptr). prop (WpFn 𝓤 𝓛.H 𝓣.C 𝓣.Λ (body Z) (vptr a.0.ref_ptr.0 a.0.ref_ptr.1 ∷ ptr_val x ∷ vint w64 n
    ∷ vint w64 m ∷ []) (W.post (y x)))) e refl $
    fsplit ! $ move ! (2 ∷ []) $ split ! $ split ! $ move ! (2 ∷ []) $ fsplit ! $
    use1 𝓛 (‵ (seen Z κ at it) ⊛ ‵ (sees κ (budget_of Z a.0))) (lends_fields Z 𝓛 κ κ' a.0) $ split ! $
    keep ! (5 ∷ 6 ∷ 0 ∷ 3 ∷ 4 ∷ []) $
    -- [the block; its token; the inner allocator; the lifetime's token; the other lifetime's token]
    enter ! _ _ (body Z) _ _ $ alloc_all !
    (λ l. pass_all ! refl (
      (tt, tt),
      ((tt, tt), ((tt, record { fits = are.1.1.0.1 }), ((tt, record { fits = are.1.1.1.0.1 }), tt))),
    ) $
    sets ! (addr ! (through ! refl (fld ! refl (stop !)))) refl (tt, tt) $
    group ! 4 $ use1 𝓛 (raw (G.pre (z b o n m τ)))
    (Gives-goes Z 𝓛 𝓜.mem 𝓡.returns κ q at it (⊑_trans κ κ' row.lives bounds.0 lives) b o n m τ fits.0 fits.1
    are.1.1.0.1 are.1.1.1.0.1) $
    calls_at ! (framed 𝓤 𝓛.H 𝓜 𝓣) G (met.deallocate drops) (z b o n m τ)
    (and_then ! (get ! refl) (and_then ! (get ! refl) (and_then ! (get ! refl) (and_then ! (get ! refl) (no_more !)))))
    (λ v.
    use1 𝓛 (later (given (v ≡ vunit) (‵ (flft κ q)))) (Gives-Gives Z 𝓛 𝓜.mem 𝓡.returns κ q at it b o n m τ v) $ await !
    tt $ learn ! (λ is_unit.
    lands_as ! is_unit refl (tt, tt) $ sets ! (of_opd ! (unit_lit !)) refl (tt, tt) $
    returns ! (look_at ! 0 refl) $ free_all ! refl $
    suffices ! _ (ends_at 𝓛 (T Z) (spent Z) c (y (block_ptr b o)) vunit tt (tt, (tt, (tt, (tt, tt))))
    (tt, (tt, (tt, (tt, tt))))) $
    -- the tokens, nothing of the parameters, the unit, and an empty `ensures`
    join ! $ nothing ! $ feq_i ! (List Val) (vunit ∷ []) (vunit ∷ []) refl $
    nothing ! $ nothing ! $ fjoin ! $ nothing ! $ fjoin ! $ nothing ! $ fjoin ! $ nothing ! $ fjoin ! $
    move ! (3 ∷ []) $ group ! 3 $ done !)))))))
