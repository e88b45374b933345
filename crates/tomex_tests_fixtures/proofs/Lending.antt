-- A `&Refusing` lends a `&` to each of its fields, the inner allocator and the budget.
use Rattle.tomex_tests_fixtures.proofs.Steps.{ℕ, ◌+◌, [], ◌∷◌, Bor, Al, α, seen, Lft, hidden_shr, unhide, param}
use Rattle.tomex_tests_fixtures.proofs.Steps.{shr_vals, Slot, plain, RefOf, size, align, up, ‵, ◌$◌, ◌∵◌, !, qed}
use Rattle.tomex_tests_fixtures.proofs.Steps.{done, move, keep, drop, join, fsplit, id⊢, use1, Fml, Ura, ent, sep}
use Rattle.tomex_tests_fixtures.proofs.Steps.{Logic, sem}
use Rattle.tomex_tests_fixtures.specs.contracts.refusing.Refusing as refusing
use Rattle.tomex_tests_fixtures.specs.contracts.budget.Budget as budget

-- where a `&Refusing` points, and where its fields are
abbrev pub Lent : Al → Type 0
Lent Z = Bor (refusing.the_row Z.row).Denot

abbrev pub inner_at : (Z : Al) → Lent Z → ℕ × ℕ
inner_at Z r = (r.ref_ptr.0, r.ref_ptr.1 + up (align (α Z)) 0)

abbrev pub budget_of : (Z : Al) → Lent Z → Bor (budget.the_row).Denot
budget_of Z r = record {
  ref_ptr = (r.ref_ptr.0, r.ref_ptr.1 + up 8 (up (align (α Z)) 0 + size (α Z)));
  now = r.now.budget;
}

-- the resources of a holder of a `&Budget`
abbrev pub sees : Lft → Bor (budget.the_row).Denot → Fml
sees κ b = hidden_shr budget.the_row κ b.now b.ref_ptr.0 b.ref_ptr.1

-- `&self`, of the first lifetime that a method binds
abbrev pub self : Al → Slot 2
self Z = RefOf (0 ∷ []) tt (plain (λ _. refusing.the_row (param 0 Z.row))) (λ _. tt)

pub lends_fields : (Z : Al) {M : Type 1} {𝓤 : Ura M} (𝓛 : Logic 𝓤) (κ κ' : Lft) (r : Lent Z)
    → ent 𝓤 (sem 𝓛 (((self Z).row (κ, (κ', tt))).own_val r (shr_vals r)))
    (sep 𝓤 (sem 𝓛 (seen Z κ (inner_at Z r) r.now.inner)) (sem 𝓛 (sees κ (budget_of Z r))))
lends_fields Z {𝓤 = 𝓤} 𝓛 κ κ' r =
    qed 𝓛 (‵ (((self Z).row (κ, (κ', tt))).own_val r (shr_vals r)) ∷ []) ∵ fsplit ! $ drop ! $ unhide ! $ fsplit ! $
    fsplit ! $ use1 𝓛 (‵ (seen Z κ (inner_at Z r) r.now.inner)) (id⊢ 𝓤 _) $ move ! (1 ∷ []) $
    fsplit ! $ use1 𝓛 (‵ (sees κ (budget_of Z r))) (id⊢ 𝓤 _) $
    keep ! (2 ∷ 0 ∷ []) $ join ! $ done !
