-- A state that is given a number among the kept ones: what is known then.
use Rattle.std.proofs.Common.{ℕ, ◌<◌, ◌≤◌, ◌≡◌, ◌∙◌, arith, refl, sym, inl, inr, List, [], ◌∷◌, ◌++◌, Option, Some}
use Rattle.std.proofs.Common.{None}
use Rattle.std.proofs.Common.{IfSome, length}
use Rattle.std.proofs.lemmas.List.{get_or_append_left, get_or_push, length_push}
use Rattle.std.specs.Prelude.{slice_index}
use Rattle.tomex_rvexec.specs.declared.step.Step.{Step}
use Rattle.tomex_config.specs.Configuration.{Configuration}
use Rattle.tomex_alike.specs.Laws.{history_to}
use Rattle.tomex_alike.proofs.Same.{looks_refl}
use Rattle.tomex_repeats.specs.Blocks.{Blocks}
use Rattle.tomex_states.specs.States.{ShowsState}
use Rattle.tomex_states.specs.declared.state.State.{State}
use Rattle.tomex_evaluation.specs.Kept.{IsNumbered}
use Rattle.tomex_evaluation.specs.Known.{AreKnown, IsInKept}
use Rattle.tomex_evaluation.specs.Places.{IsCut}
use Rattle.tomex_evaluation.specs.declared.known.Known.{Known}
use Rattle.tomex_evaluation.proofs.Keeping.{known_more, known_none}
use Rattle.tomex_evaluation.proofs.Shown.{history_is, none_older}

-- What is known after a state was given a number, if it was: then no place is forgotten.
pub record IsKnownAs {A : Type 0} (config : Configuration) (steps : List Step) (run : Blocks) (i : ℕ) (old : List ℕ)
    (after : Known A) (name : Option ℕ) : Type 0 where
  pub places : List ℕ
  pub known : AreKnown config steps run i places after
  pub number : IfSome name (IsInKept config steps places i)
  pub more : IfSome name (λ n. length old ≤ length places)
  pub same : IfSome name (λ n. (v : ℕ) → v < length old → slice_index places v ≡ slice_index old v)

module _ {A : Type 0} (config : Configuration) (steps : List Step) (run : Blocks) (cut : IsCut config steps run)
    (i : ℕ) (places : List ℕ) (state : State A) (before after : Known A)
    (shows : ShowsState config (history_to config steps i) state) (so : AreKnown config steps run i places before)
  where
    pub known_as : (number : Option ℕ) → IsNumbered config state before after number
        → IsKnownAs config steps run i places after number
    known_as None (inl same) =
        record { places = places; known = rw same so; number = tt; more = tt; same = tt }
    known_as None (inr none) = record {
      places = [];
      known = known_none config steps run i after none.states none.next (none.different ∙ so.different)
          (rw none.different so.few);
      number = tt;
      more = tt;
      same = tt;
    }
    known_as (Some v) (inl found) =
        let l : v < length places = omega (arith, found.number, so.count) in
        record {
          places = places;
          known = rw found.same so;
          number = record {
            number = l;
            back = found.alike (history_to config steps (slice_index places v)) (history_to config steps i)
                (history_is config steps run cut (slice_index places v)) (history_is config steps run cut i)
                (so.shown v state l) shows;
          };
          more = omega arith;
          same = λ w k. refl;
        }
    known_as (Some v) (inr new) =
        let long = length_push places i in
        let e : length places ≡ v = sym (new.number ∙ so.count) in
        record {
          places = places ++ (i ∷ []);
          known = known_more config steps run i places state before after new.more new.room new.kept
              shows so;
          number = record {
            number = omega arith;
            back = rw (get_or_push places i 0 v e) (looks_refl config 4 (history_to config steps i)
                (none_older config (history_to config steps i) state shows new.kept));
          };
          more = omega arith;
          same = λ w k. get_or_append_left places (i ∷ []) 0 w k;
        }
