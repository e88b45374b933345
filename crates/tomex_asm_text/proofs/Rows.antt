-- What lines say, computed on lines whose meaning is known.
use Rattle.std.proofs.Common.{◌≡◌, ℕ, List, refl, [], ◌∷◌, Result, Ok, pos, codes}
use Rattle.std.specs.Fmt.{digits}
use Rattle.tomex_rvdec.specs.declared.op.Op.TheVariants as ops
use Rattle.tomex_asm_tokens.specs.declared.cause.Cause.TheVariants.{Expected, RegisterName, NoSection, NoInstruction}
use Rattle.tomex_asm_tokens.specs.declared.cause.Cause.TheVariants.{NoDirective}
use Rattle.tomex_asm_tokens.specs.declared.cause.Thing.TheVariants as things
use Rattle.tomex_asm_tokens.specs.declared.token.Mark.TheVariants as marks
use Rattle.tomex_asm_tokens.specs.declared.token.Sort.TheVariants as sorts
use Rattle.tomex_asm_text.specs.declared.statement.Section.TheVariants as sections
use Rattle.tomex_asm_text.specs.declared.statement.Kind.TheVariants as kinds
use Rattle.tomex_asm_tokens.specs.Tokens.{token_of, refused, tokens, token}
use Rattle.tomex_asm_tokens.specs.Registers.{register_named}
use Rattle.tomex_asm_text.specs.Values.{mark_at, register_at, name_at, value_at, values_at}
use Rattle.tomex_asm_text.specs.Mnemonics.{mnemonic_named}
use Rattle.tomex_asm_text.specs.Instructions.{made, plain, next_register, next_value, two_registers}
use Rattle.tomex_asm_text.specs.Instructions.{part_at, immediate_at, base_at, after_value, place_at}
use Rattle.tomex_asm_text.specs.Instructions.{immediate_form, upper_at}
use Rattle.tomex_asm_text.specs.Instructions.{upper_form, load_form, jalr_after, jalr_form, store_form}
use Rattle.tomex_asm_text.specs.Instructions.{set_at, fence_form, of_zero}
use Rattle.tomex_asm_text.specs.Instructions.{branch_of_zero, branch_swapped, load_address, far}
use Rattle.tomex_asm_text.specs.Instructions.{load_number}
use Rattle.tomex_asm_text.specs.Directives.{directive_named, section_named, section_at, elements_at, kind_after}
use Rattle.tomex_asm_text.specs.Directives.{kind_at, name_and_value, common_at}
use Rattle.tomex_asm_tokens.specs.declared.cause.Fault.{Fault}
use Rattle.tomex_asm_tokens.specs.declared.token.Token.{Token}
use Rattle.tomex_asm_text.specs.Lines.{Line, labels_at, statement_at, line_from, line_said}
use Rattle.tomex_asm_text.specs.Statement.{Statement, Fixed, Plain, High, Target, PcHigh, PcLow, Nothing, One, Two}
use Rattle.tomex_asm_text.specs.Statement.{LoadNumber, Data, InSection, OfKind}

abbrev said : List Token → ℕ → Statement → Result Line Fault
said labels at statement = Ok (record { labels = labels; at = at; statement = statement })

-- Instructions and pseudoinstructions
pub load_address_pair : line_said (codes "_start: la a0, table")
    ≡ said (token_of sorts.Word 0 6 ∷ token_of (sorts.Mark marks.Colon) 6 1 ∷ []) 8
    (Two (made ops.Auipc 10 0 0 (PcHigh (token_of sorts.Word 15 5 ∷ [])))
    (made ops.Addi 10 10 0 (PcLow (token_of sorts.Word 15 5 ∷ []))))
load_address_pair =
    unfold line_said in unfold tokens in unfold token in unfold line_from in unfold labels_at in
    unfold statement_at in unfold mnemonic_named in unfold register_named in unfold digits in unfold register_at in
    unfold mark_at in unfold load_address in unfold next_value in unfold value_at in refl

pub load_word : line_said (codes "1: lw t1, -4(sp)")
    ≡ said (token_of (sorts.Decimal 1) 0 1 ∷ token_of (sorts.Mark marks.Colon) 1 1 ∷ []) 3
    (One (made ops.Lw 6 2 0 (Plain (token_of (sorts.Mark marks.Minus) 10 1 ∷ token_of (sorts.Decimal 4) 11 1 ∷ []))))
load_word =
    unfold line_said in unfold tokens in unfold token in unfold line_from in unfold labels_at in
    unfold statement_at in unfold mnemonic_named in unfold register_named in unfold digits in unfold register_at in
    unfold mark_at in unfold load_form in unfold place_at in unfold after_value in unfold value_at in
    unfold base_at in refl

pub load_from_address : line_said (codes "lw a0, x")
    ≡ said [] 0
    (Two (made ops.Auipc 10 0 0 (PcHigh (token_of sorts.Word 7 1 ∷ [])))
    (made ops.Lw 10 10 0 (PcLow (token_of sorts.Word 7 1 ∷ []))))
load_from_address =
    unfold line_said in unfold tokens in unfold token in unfold line_from in unfold labels_at in
    unfold statement_at in unfold mnemonic_named in unfold register_named in unfold digits in unfold register_at in
    unfold mark_at in unfold load_form in unfold place_at in unfold after_value in unfold value_at in refl

pub store_to_address : line_said (codes "sw a0, x, t1")
    ≡ said [] 0
    (Two (made ops.Auipc 6 0 0 (PcHigh (token_of sorts.Word 7 1 ∷ [])))
    (made ops.Sw 0 6 10 (PcLow (token_of sorts.Word 7 1 ∷ []))))
store_to_address =
    unfold line_said in unfold tokens in unfold token in unfold line_from in unfold labels_at in
    unfold statement_at in unfold mnemonic_named in unfold register_named in unfold digits in unfold register_at in
    unfold mark_at in unfold store_form in unfold place_at in unfold after_value in unfold value_at in
    unfold next_register in refl

pub upper_part : line_said (codes "lui a5, %hi(x+4)")
    ≡ said [] 0
    (One (made ops.Lui 15 0 0 (High (token_of sorts.Word 12 1 ∷ token_of (sorts.Mark marks.Plus) 13 1
    ∷ token_of (sorts.Decimal 4) 14 1 ∷ []))))
upper_part =
    unfold line_said in unfold tokens in unfold token in unfold line_from in unfold labels_at in
    unfold statement_at in unfold mnemonic_named in unfold register_named in unfold digits in unfold register_at in
    unfold mark_at in unfold upper_form in unfold upper_at in unfold part_at in unfold value_at in refl

pub greater_than : line_said (codes "bgt a0, a1, 1f")
    ≡ said [] 0 (One (made ops.Blt 0 11 10 (Target (token_of sorts.Below 12 2 ∷ []))))
greater_than =
    unfold line_said in unfold tokens in unfold token in unfold line_from in unfold labels_at in
    unfold statement_at in unfold mnemonic_named in unfold register_named in unfold digits in unfold register_at in
    unfold mark_at in unfold branch_swapped in unfold two_registers in unfold next_register in unfold next_value in
    unfold value_at in refl

pub not_zero : line_said (codes "snez a0, a1")
    ≡ said [] 0 (One (plain ops.Sltu 10 0 11))
not_zero =
    unfold line_said in unfold tokens in unfold token in unfold line_from in unfold labels_at in
    unfold statement_at in unfold mnemonic_named in unfold register_named in unfold digits in unfold register_at in
    unfold mark_at in unfold of_zero in unfold two_registers in unfold next_register in refl

pub tail_call : line_said (codes "tail f@plt")
    ≡ said [] 0
    (Two (made ops.Auipc 6 0 0 (PcHigh (token_of sorts.Word 5 1 ∷ [])))
    (made ops.Jalr 0 6 0 (PcLow (token_of sorts.Word 5 1 ∷ []))))
tail_call =
    unfold line_said in unfold tokens in unfold token in unfold line_from in unfold labels_at in
    unfold statement_at in unfold mnemonic_named in unfold register_named in unfold digits in unfold register_at in
    unfold mark_at in unfold far in unfold value_at in refl

pub call_of_register : line_said (codes "jalr a0")
    ≡ said [] 0 (One (plain ops.Jalr 1 10 0))
call_of_register =
    unfold line_said in unfold tokens in unfold token in unfold line_from in unfold labels_at in
    unfold statement_at in unfold mnemonic_named in unfold register_named in unfold digits in unfold register_at in
    unfold mark_at in unfold jalr_form in unfold jalr_after in refl

pub fence_of_sets : line_said (codes "fence rw, w")
    ≡ said [] 0 (One (made ops.Fence 0 0 0 (Fixed (pos 49))))
fence_of_sets =
    unfold line_said in unfold tokens in unfold token in unfold line_from in unfold labels_at in
    unfold statement_at in unfold mnemonic_named in unfold register_named in unfold digits in unfold register_at in
    unfold mark_at in unfold fence_form in unfold set_at in refl

pub load_of_number : line_said (codes "li a0, 2*3")
    ≡ said [] 0
    (LoadNumber 10 (token_of (sorts.Decimal 2) 7 1 ∷ token_of (sorts.Mark marks.Star) 8 1
    ∷ token_of (sorts.Decimal 3) 9 1 ∷ []))
load_of_number =
    unfold line_said in unfold tokens in unfold token in unfold line_from in unfold labels_at in
    unfold statement_at in unfold mnemonic_named in unfold register_named in unfold digits in unfold register_at in
    unfold mark_at in unfold load_number in unfold next_value in unfold value_at in refl

-- Directives
pub two_words : line_said (codes ".word 1, -x")
    ≡ said [] 0
    (Data 4 (token_of (sorts.Decimal 1) 6 1 ∷ token_of (sorts.Mark marks.Comma) 7 1
    ∷ token_of (sorts.Mark marks.Minus) 9 1 ∷ token_of sorts.Word 10 1 ∷ []))
two_words =
    unfold line_said in unfold tokens in unfold token in unfold line_from in unfold labels_at in
    unfold statement_at in unfold directive_named in unfold values_at in unfold register_named in unfold digits in
    refl

pub read_only_data : line_said (codes ".section .rodata.str1.4,\"aMS\",@progbits,1")
    ≡ said [] 0 (InSection sections.Data)
read_only_data =
    unfold line_said in unfold tokens in unfold token in unfold line_from in unfold labels_at in
    unfold statement_at in unfold directive_named in unfold section_at in unfold section_named in
    unfold register_named in unfold digits in refl

pub function_kind : line_said (codes ".type f, @function")
    ≡ said [] 0 (OfKind (token_of sorts.Word 6 1) kinds.Function)
function_kind =
    unfold line_said in unfold tokens in unfold token in unfold line_from in unfold labels_at in
    unfold statement_at in unfold directive_named in unfold kind_at in unfold kind_after in unfold name_at in
    unfold mark_at in unfold register_named in unfold digits in refl

pub empty_line : line_said (codes " ")
    ≡ said [] 0 Nothing
empty_line =
    unfold line_said in unfold tokens in unfold token in unfold line_from in unfold labels_at in
    unfold statement_at in refl

-- Refusals, at their places
pub register_for_value : line_said (codes "addi t0, t0, t4") ≡ refused 13 (Expected things.Value)
register_for_value =
    unfold line_said in unfold tokens in unfold token in unfold line_from in unfold labels_at in
    unfold statement_at in unfold mnemonic_named in unfold register_named in unfold digits in unfold register_at in
    unfold mark_at in unfold immediate_form in unfold two_registers in unfold next_register in
    unfold immediate_at in unfold value_at in refl

pub value_for_register : line_said (codes "jalr (a0)") ≡ refused 5 (Expected things.Register)
value_for_register =
    unfold line_said in unfold tokens in unfold token in unfold line_from in unfold labels_at in
    unfold statement_at in unfold mnemonic_named in unfold register_named in unfold digits in unfold register_at in
    unfold mark_at in unfold jalr_form in refl

pub line_ends_early : line_said (codes "beqz a0") ≡ refused 7 (Expected things.Comma)
line_ends_early =
    unfold line_said in unfold tokens in unfold token in unfold line_from in unfold labels_at in
    unfold statement_at in unfold mnemonic_named in unfold register_named in unfold digits in unfold register_at in
    unfold mark_at in unfold branch_of_zero in unfold next_value in refl

pub address_without_register : line_said (codes "sw a0, f ") ≡ refused 8 (Expected things.Open)
address_without_register =
    unfold line_said in unfold tokens in unfold token in unfold line_from in unfold labels_at in
    unfold statement_at in unfold mnemonic_named in unfold register_named in unfold digits in unfold register_at in
    unfold mark_at in unfold store_form in unfold place_at in unfold after_value in unfold value_at in refl

pub open_parenthesis : line_said (codes "lw a3,4(x9") ≡ refused 10 (Expected things.Close)
open_parenthesis =
    unfold line_said in unfold tokens in unfold token in unfold line_from in unfold labels_at in
    unfold statement_at in unfold mnemonic_named in unfold register_named in unfold digits in unfold register_at in
    unfold mark_at in unfold load_form in unfold place_at in unfold after_value in unfold value_at in
    unfold base_at in refl

pub sum_ends_early : line_said (codes "li a0, 1 +") ≡ refused 10 (Expected things.Value)
sum_ends_early =
    unfold line_said in unfold tokens in unfold token in unfold line_from in unfold labels_at in
    unfold statement_at in unfold mnemonic_named in unfold register_named in unfold digits in unfold register_at in
    unfold mark_at in unfold load_number in unfold next_value in unfold value_at in refl

pub second_statement : line_said (codes "nop nop") ≡ refused 4 (Expected things.EndOfLine)
second_statement =
    unfold line_said in unfold tokens in unfold token in unfold line_from in unfold labels_at in
    unfold statement_at in unfold mnemonic_named in unfold register_named in unfold digits in unfold register_at in
    unfold mark_at in refl

pub number_as_statement : line_said (codes "f: 5") ≡ refused 3 (Expected things.Instruction)
number_as_statement =
    unfold line_said in unfold tokens in unfold token in unfold line_from in unfold labels_at in
    unfold statement_at in unfold mnemonic_named in unfold register_named in unfold digits in unfold register_at in
    unfold mark_at in refl

pub label_is_a_register : line_said (codes "x0: nop") ≡ refused 0 RegisterName
label_is_a_register =
    unfold line_said in unfold tokens in unfold token in unfold line_from in unfold labels_at in
    unfold statement_at in unfold mnemonic_named in unfold register_named in unfold digits in unfold register_at in
    unfold mark_at in refl

pub capital_letters : line_said (codes "ADDI a0, a0, 1") ≡ refused 0 NoInstruction
capital_letters =
    unfold line_said in unfold tokens in unfold token in unfold line_from in unfold labels_at in
    unfold statement_at in unfold mnemonic_named in unfold register_named in unfold digits in unfold register_at in
    unfold mark_at in refl

pub unknown_directive : line_said (codes ".quad 1") ≡ refused 0 NoDirective
unknown_directive =
    unfold line_said in unfold tokens in unfold token in unfold line_from in unfold labels_at in
    unfold statement_at in unfold directive_named in refl

pub unknown_section : line_said (codes ".section foo, \"ax\"") ≡ refused 9 NoSection
unknown_section =
    unfold line_said in unfold tokens in unfold token in unfold line_from in unfold labels_at in
    unfold statement_at in unfold directive_named in unfold section_at in unfold section_named in refl

pub kind_without_at : line_said (codes ".type f, function") ≡ refused 9 (Expected things.Type)
kind_without_at =
    unfold line_said in unfold tokens in unfold token in unfold line_from in unfold labels_at in
    unfold statement_at in unfold directive_named in unfold kind_at in unfold kind_after in unfold name_at in
    unfold mark_at in unfold register_named in unfold digits in refl

pub word_for_string : line_said (codes ".ascii a") ≡ refused 7 (Expected things.Text)
word_for_string =
    unfold line_said in unfold tokens in unfold token in unfold line_from in unfold labels_at in
    unfold statement_at in unfold directive_named in unfold elements_at in refl

pub number_for_name : line_said (codes ".comm 4,4,4") ≡ refused 6 (Expected things.Name)
number_for_name =
    unfold line_said in unfold tokens in unfold token in unfold line_from in unfold labels_at in
    unfold statement_at in unfold directive_named in unfold common_at in unfold name_and_value in unfold name_at in
    refl

pub number_for_set : line_said (codes "fence 0, rw") ≡ refused 6 (Expected things.FenceSet)
number_for_set =
    unfold line_said in unfold tokens in unfold token in unfold line_from in unfold labels_at in
    unfold statement_at in unfold mnemonic_named in unfold register_named in unfold digits in unfold register_at in
    unfold mark_at in unfold fence_form in unfold set_at in refl
