-- The text of a run: a line for each register, and a line for the end.
use Rattle.std.specs.Prelude.{◌≡◌, ◌≢◌, ℕ, ◌+◌, ◌<◌, List, [], ◌∷◌, ◌++◌, codes, Some, None}
use Rattle.std.specs.Fmt.{decimal}
use Rattle.tomex_image.specs.Image.{Loaded}
use Rattle.tomex_image.specs.Window.{Span}
use Rattle.tomex_image.specs.Loading.{IsPlaced, refused}
use Rattle.tomex_image.specs.declared.error.ImageError.{ImageError}
use Rattle.tomex_image.specs.declared.error.ImageError.TheVariants as images
use Rattle.tomex_rvexec.specs.declared.outcome.EndKind.{EndKind}
use Rattle.tomex_rvexec.specs.declared.end.RunError.{RunError}
use Rattle.tomex_rvexec.specs.declared.end.RunError.TheVariants as runs
use Rattle.tomex_rvexec.specs.Machine.{State}
use Rattle.tomex_rvexec.specs.Run.{RunEnds, IsRefusal}
use Rattle.tomex_rvdec.specs.Text.{hex8}
use Rattle.tomex_rvexec.specs.Texts.{name_of_end}
use Rattle.tomex_command.specs.declared.run.RunRefusal.{RunRefusal}
use Rattle.tomex_command.specs.declared.run.RunRefusal.TheVariants.{Image, Fault, TooLong, Memory}

-- `x5=12345000` and a line feed
abbrev pub register_line : ℕ → ℕ → List ℕ
register_line r v = codes "x" ++ (decimal r ++ (codes "=" ++ (hex8 v ++ codes "\n")))

-- the lines of registers r, r + 1 and so on
abbrev pub register_lines : ℕ → List ℕ → List ℕ
register_lines r [] = []
register_lines r (v ∷ vs) = register_line r v ++ register_lines (r + 1) vs

-- `ebreak at 0000000c after 4` and a line feed
abbrev pub end_line : EndKind → ℕ → ℕ → List ℕ
end_line kind pc steps =
    name_of_end kind ++ (codes " at " ++ (hex8 pc ++ (codes " after " ++ (decimal steps ++ codes "\n"))))

abbrev pub text_of : EndKind → ℕ → State → List ℕ
text_of kind steps s = register_lines 0 s.regs ++ end_line kind s.pc steps

-- the bytes load as an image whose run ends within the limit, and this is the text of its end
abbrev pub IsRunText : List ℕ → Span → ℕ → List ℕ → Type 0
IsRunText bytes window limit text =
    (i : Loaded) × IsPlaced bytes window i × (refused bytes window ≡ None)
    × ((k : ℕ) × (s : State) × (kind : EndKind) × (k < limit) × RunEnds i k s kind × (text ≡ text_of kind (k + 1) s))

-- the bytes load as an image whose run has this refusal
abbrev pub LoadsAndFails : List ℕ → Span → ℕ → RunError → Type 0
LoadsAndFails bytes window limit e =
    (i : Loaded) × IsPlaced bytes window i × (refused bytes window ≡ None) × IsRefusal i limit e

-- when each refusal comes; memory may run out at any time
abbrev pub IsRunRefusal : List ℕ → Span → ℕ → RunRefusal → Type 0
IsRunRefusal bytes window limit (Image e) = (e ≢ images.Memory) × (refused bytes window ≡ Some e)
IsRunRefusal bytes window limit (Fault f) = LoadsAndFails bytes window limit (runs.Fault f)
IsRunRefusal bytes window limit TooLong = LoadsAndFails bytes window limit runs.TooLong
IsRunRefusal bytes window limit Memory = Unit {0}

-- the refusal that an image's, or a run's, becomes
abbrev pub refusal_of_image : ImageError → RunRefusal
refusal_of_image images.Memory = Memory
refusal_of_image e = Image e

abbrev pub refusal_of_run : RunError → RunRefusal
refusal_of_run (runs.Fault f) = Fault f
refusal_of_run runs.TooLong = TooLong
refusal_of_run runs.Memory = Memory
