-- The file that is made of a program's parts.
use Rattle.std.proofs.Common.{◌≡◌, ℕ, List, [], ◌++◌, ◌+◌, ◌-◌, ◌%◌, ◌^◌, length, ap, ◌∙◌, append_assoc}
use Rattle.tomex_elf.specs.File.{headers}
use Rattle.tomex_asm_places.specs.Positions.{end_of}
use Rattle.tomex_asm_words.specs.declared.frame.Frame.{Frame}
use Rattle.tomex_asm.specs.Assembled.{Program, frame_of}
use Rattle.tomex_asm.specs.File.{Symbol, entry_from, file_of, listing, locals_of, memory, sections, symbols_of}

abbrev parts : Program → Frame → ℕ → ℕ → ℕ → List Symbol → List ℕ → List ℕ → List ℕ
parts p f size entry locals symbols code contents =
    headers (record { base = p.base; size = size }) entry (sections size)
    ++ (memory f.gap size code contents
    ++ listing f p.position.text_size p.position.data_size ((size + 284) % 2 ^ 32) locals symbols)

three : (none h m l a b c : List ℕ) → none ≡ [] → h ≡ none ++ a → m ≡ h ++ b → l ≡ m ++ c → l ≡ a ++ (b ++ c)
three none h m l a b c e1 e2 e3 e4 =
    e4 ∙ ap (λ (xs : List ℕ). xs ++ c) (e3 ∙ ap (λ (xs : List ℕ). xs ++ b) (e2 ∙ ap (λ (xs : List ℕ). xs ++ a) e1))
    ∙ append_assoc a b c

pub made : (p : Program) (f : Frame) (size entry locals : ℕ) (symbols : List Symbol) (code contents none h m l : List ℕ)
    → f ≡ frame_of p.base p.position → size ≡ end_of p.base p.position - p.base → entry ≡ entry_from f p.defined
    → locals ≡ length (locals_of f p) % 2 ^ 32 → symbols ≡ symbols_of f p → code ≡ p.output.code
    → contents ≡ p.output.contents → none ≡ []
    → h ≡ none ++ headers (record { base = p.base; size = size }) entry (sections size)
    → m ≡ h ++ memory f.gap size code contents
    → l ≡ m ++ listing f p.position.text_size p.position.data_size ((size + 284) % 2 ^ 32) locals symbols
    → l ≡ file_of p
unfolding file_of
made p f size entry locals symbols code contents none h m l fe se ee le ye ce oe ne he me lf =
    three none h m l _ _ _ ne he me lf
    ∙ ap (λ (x : ℕ). parts p f size x locals symbols code contents) ee
    ∙ ap (λ (x : ℕ). parts p f size (entry_from f p.defined) x symbols code contents) le
    ∙ ap (λ (x : List Symbol).
    parts p f size (entry_from f p.defined) (length (locals_of f p) % 2 ^ 32) x code contents)
    ye
    ∙ ap (λ (x : List ℕ). parts p f size (entry_from f p.defined) (length (locals_of f p) % 2 ^ 32) (symbols_of f p) x
    contents) ce
    ∙ ap (λ (x : List ℕ). parts p f size (entry_from f p.defined) (length (locals_of f p) % 2 ^ 32) (symbols_of f p)
    p.output.code x) oe
    ∙ ap (λ (x : ℕ). parts p f x (entry_from f p.defined) (length (locals_of f p) % 2 ^ 32) (symbols_of f p)
    p.output.code p.output.contents) se
    ∙ ap (λ (g : Frame). parts p g (end_of p.base p.position - p.base) (entry_from g p.defined)
    (length (locals_of g p) % 2 ^ 32) (symbols_of g p) p.output.code p.output.contents) fe
