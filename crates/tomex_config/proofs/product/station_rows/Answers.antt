-- Each pool's numbers are varied over the rows of the pools before it.
use Rattle.std.proofs.Common.{◌≡◌, ◌∙◌, ℕ, List, [], ◌∷◌, ap, ap₂, refl}
use Rattle.std.proofs.lemmas.Result.{IfOk-weaker}
use Rattle.tomex_rvdec.specs.declared.pool.PoolId.TheVariants as pools
use Rattle.tomex_config.specs.Configuration.{Configuration, with_stations}
use Rattle.tomex_config.specs.Vary.{vary}
use Rattle.tomex_config.proofs.product.station_rows.Goals as goal

varied : (f : Configuration → ℕ → Configuration) {made rows read known : List Configuration} {given values : List ℕ}
    → made ≡ vary f given read → given ≡ values → read ≡ rows → rows ≡ known → made ≡ vary f values known
varied f is g r k = is ∙ ap₂ (λ (vs : List ℕ) (rs : List Configuration). vary f vs rs) g (r ∙ k)

pub returns : goal.returns
returns g c =
    let plain = ap (λ (x : Configuration). x ∷ []) c.plain.ensures in
    let alu = varied (with_stations pools.Alu) c.in_ok-rows.ensures c.deref.ensures.value refl plain in
    let mul = varied (with_stations pools.Mul) c.in_ok-rows-2.ensures c.deref-3.ensures.value c.deref-2.ensures.value
    alu in
    let div = varied (with_stations pools.Div) c.in_ok-rows-3.ensures c.deref-5.ensures.value c.deref-4.ensures.value
    mul in
    let load = varied (with_stations pools.Load) c.in_ok-rows-4.ensures c.deref-7.ensures.value c.deref-6.ensures.value
    div in
    let store = varied (with_stations pools.Store) c.in_ok-rows-5.ensures c.deref-9.ensures.value
    c.deref-8.ensures.value load in
    IfOk-weaker c.vary_stations-6.result _ _
    (λ v is. varied (with_stations pools.Bru) is c.deref-11.ensures.value c.deref-10.ensures.value store)
    c.vary_stations-6.ensures
