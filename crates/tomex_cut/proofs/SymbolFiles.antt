-- The symbol table and the section headers, as they are written.
use Rattle.std.proofs.Common.{◌≡◌, ℕ, ◌+◌, ◌<◌, ◌≤◌, List, [], ◌++◌, length, take, get_or, sym, ◌∙◌, ap}
use Rattle.std.proofs.Common.{append_assoc, arith, replicate}
use Rattle.std.specs.List.{flat_map, prefix_len, take_while}
use Rattle.std.proofs.lemmas.List.{flat_map_more, length-take, take_all, take_more}
use Rattle.tomex_symbols.specs.declared.symbol.Symbol.{Symbol}
use Rattle.tomex_symbols.specs.Sections.{tables_of}
use Rattle.tomex_symbols.specs.Symbols.{symbols_of}
use Rattle.tomex_image.specs.Window.{Span}
use Rattle.tomex_image.specs.Image.{Loaded}
use Rattle.tomex_rvexec.specs.Memory.{Bytes}
use Rattle.tomex_cut.specs.Cut.{IsCutAt, IsCutWithSymbols}
use Rattle.tomex_elf.specs.File.{file_of, headers}
use Rattle.tomex_cut.specs.SymbolFile.{entry_of, four_sections, is_local, listing, names_in, start_in, symbol_file_of}
use Rattle.tomex_cut.specs.SymbolFile.{symbol_table}

-- one more entry is appended
pub entries_on : (new file old : List ℕ) (start : ℕ) (ss : List Symbol) (i : ℕ) (d : Symbol)
    → new ≡ file ++ entry_of start (get_or ss i d) → i < length ss
    → file ≡ old ++ flat_map (entry_of start) (take i ss) → new ≡ old ++ flat_map (entry_of start) (take (i + 1) ss)
entries_on new file old start ss i d e h before =
    e ∙ (ap (λ ys. ys ++ entry_of start (get_or ss i d)) before
    ∙ (flat_map_more (entry_of start) old (take i ss) (get_or ss i d)
    ∙ ap (λ (ts : List Symbol). old ++ flat_map (entry_of start) ts) (sym (take_more ss i d h))))

pub table_done : (file old : List ℕ) (start : ℕ) (ss : List Symbol) (i : ℕ) → length ss ≤ i
    → file ≡ (old ++ replicate 16 0) ++ flat_map (entry_of start) (take i ss)
    → file ≡ old ++ symbol_table start ss
table_done file old start ss i h e = e
    ∙ (ap (λ (ts : List Symbol). (old ++ replicate 16 0) ++ flat_map (entry_of start) ts) (take_all i ss h)
    ∙ append_assoc old (replicate 16 0) (flat_map (entry_of start) ss))

-- local symbols are at most all
pub few_locals : (ss : List Symbol) → length (take_while is_local ss) ≤ length ss
few_locals ss = omega (arith, length-take (prefix_len is_local ss) ss)

-- the whole file, part by part
pub file_joined : (new f g h memory bytes : List ℕ) (window : Span) (entry : ℕ) (ss : List Symbol) (start : ℕ)
    (names : List ℕ) → f ≡ [] → g ≡ f ++ headers window entry (four_sections window) → h ≡ g ++ memory
    → new ≡ h ++ listing window ss start names → ss ≡ symbols_of bytes → start ≡ start_in (tables_of bytes)
    → names ≡ names_in bytes (tables_of bytes) → new ≡ symbol_file_of window entry memory bytes
file_joined new f g h memory bytes window entry ss start names e1 e2 e3 e4 e5 e6 e7 =
    let front : h ≡ headers window entry (four_sections window) ++ memory =
    e3 ∙ ap (λ (x : List ℕ). x ++ memory)
    (e2 ∙ ap (λ (x : List ℕ). x ++ headers window entry (four_sections window)) e1) in
    let back : listing window ss start names
    ≡ listing window (symbols_of bytes) (start_in (tables_of bytes)) (names_in bytes (tables_of bytes)) =
    ap (λ (x : List Symbol). listing window x start names) e5
    ∙ (ap (λ (x : ℕ). listing window (symbols_of bytes) x names) e6
    ∙ ap (λ (x : List ℕ). listing window (symbols_of bytes) (start_in (tables_of bytes)) x) e7) in
    e4 ∙ (ap (λ (x : List ℕ). x ++ listing window ss start names) front
    ∙ (append_assoc (headers window entry (four_sections window)) memory (listing window ss start names)
    ∙ ap (λ (x : List ℕ). headers window entry (four_sections window) ++ memory ++ x) back))

-- a file of a cut's place and memory
pub with_symbols : (i : Loaded) (bytes : List ℕ) (from least place : ℕ) (memory : Bytes) (file : List ℕ)
    → IsCutAt i from least place memory → file ≡ symbol_file_of i.window place memory.bytes bytes
    → IsCutWithSymbols i bytes from least file
with_symbols i bytes from least place memory file h e = record {
  without = file_of i.window place memory.bytes;
  cut = h.cut;
  is_file = e ∙ (ap (λ (a : ℕ). symbol_file_of i.window a memory.bytes bytes) (sym h.at)
      ∙ ap (λ (m : Bytes). symbol_file_of i.window h.cut.place m.bytes bytes) (sym h.holds));
}
