-- A call that asks the budget: it is lent the budget, and returns yes or no.
use Rattle.tomex_tests_fixtures.proofs.Steps.{◌≡◌, List, [], ◌∷◌, refl, Bor, Lft, Share, ftrue, fsep, flft, shr_vals}
use Rattle.tomex_tests_fixtures.proofs.Steps.{nothing, Val, vptr, ‵, raw, ◌⊛◌, later, some, ◌$◌, ◌∵◌, !, qed, done}
use Rattle.tomex_tests_fixtures.proofs.Steps.{move, keep, use1, split, join, fjoin, feq_i, feq_l, await, id⊢, Ura}
use Rattle.tomex_tests_fixtures.proofs.Steps.{Bool, ap, vbool, SProp, ent, sep, ex, guard, Memory, Routine, Fun}
use Rattle.tomex_tests_fixtures.proofs.Steps.{Logic, sem, pick, show, check, updating, bool, only, Contract}
use Rattle.tomex_tests_fixtures.proofs.Steps.{triple_of}
use types.Kit.{now as at_once}
use Rattle.tomex_tests_fixtures.proofs.Lending.{sees}
use Rattle.tomex_tests_fixtures.specs.contracts.budget.Budget as budget
use Rattle.tomex_tests_fixtures.specs.contracts.budget.Budget.refuses as refuses

module _ {M : Type 1} {𝓤 : Ura M} (𝓛 : Logic 𝓤) (at_mem : Memory → SProp 𝓤) (run : Routine → Fun 𝓤) where
  open 𝓛 use {H, A}

  abbrev pub Asks : Contract 𝓤
  Asks = triple_of 𝓛 refuses.signature (refuses.spec 𝓛 at_mem run)

  module _ (κ : Lft) (q : Share) (r : Bor (budget.the_row).Denot) where
    abbrev pub asked : Asks.Ghost
    asked = (((κ, tt), (q, tt), tt, (r, tt), (shr_vals r, tt)), tt)

    pub asks : ent 𝓤 (sep 𝓤 (sem 𝓛 (sees κ r)) (A.lft κ q)) (Asks.pre asked)
    asks = qed 𝓛 (‵ (sees κ r) ∷ ‵ (flft κ q) ∷ []) ∵
        feq_i ! (List Val) (vptr r.ref_ptr.0 r.ref_ptr.1 ∷ []) (vptr r.ref_ptr.0 r.ref_ptr.1 ∷ []) refl $ fjoin ! $
        nothing ! $ move ! (1 ∷ 0 ∷ []) $ fjoin ! $ nothing ! $ move ! (2 ∷ 0 ∷ 1 ∷ []) $ join ! $ join ! $ nothing ! $
        move ! (1 ∷ 0 ∷ []) $ join ! $ done !

    pub tells : (v : Val) → ent 𝓤 (Asks.post asked v)
        (H.⇛ (ex 𝓤 (λ (none_left : Bool). guard 𝓤 (v ≡ vbool none_left) (A.lft κ q))))
    tells v = qed 𝓛 (raw (Asks.post asked v) ∷ []) ∵ updating ! $
        use1 𝓛 (later (some (λ (answer : Bool). ((‵ (flft κ q) ⊛ ‵ ftrue) ⊛ ‵ (bool.own_val answer (v ∷ []))) ⊛ some
        (λ (ws : Unit {0} × Unit {0}). ‵ (fsep ftrue ftrue) ⊛ ‵ ftrue)))) (id⊢ 𝓤 _) $
        await ! tt $ pick ! (λ answer. split ! $ split ! $ split ! $ move ! (2 ∷ []) $ feq_l ! (λ e. keep ! (0 ∷ []) $
        at_once ! $ show ! (λ (b : Bool). guard 𝓤 (v ≡ vbool b) (A.lft κ q)) answer $ check ! (ap only e) $ done !))
