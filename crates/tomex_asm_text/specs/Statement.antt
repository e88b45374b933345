-- What a line says: instructions whose values aren't known yet, or what a directive says. A value is its tokens, and so
-- is a list of values, of names or of strings, with its commas. In the code the tokens are borrowed; here they aren't.
use Rattle.std.specs.Prelude.{ℕ, ℤ, Bool, List}
use Rattle.tomex_rvdec.specs.declared.op.Op.{Op}
use Rattle.tomex_asm_tokens.specs.declared.token.Token.{Token}
use Rattle.tomex_asm_text.specs.declared.statement.Section.{Section}
use Rattle.tomex_asm_text.specs.declared.statement.Alignment.{Alignment}
use Rattle.tomex_asm_text.specs.declared.statement.Binding.{Binding}
use Rattle.tomex_asm_text.specs.declared.statement.Kind.{Kind}
use Rattle.tomex_asm_text.specs.declared.statement.Immediate as coded
use Rattle.tomex_asm_text.specs.declared.statement.Immediate.TheVariants as immediates
use Rattle.tomex_asm_text.specs.declared.statement.Template as templates
use Rattle.tomex_asm_text.specs.declared.statement.Statement as written
use Rattle.tomex_asm_text.specs.declared.statement.Statement.TheVariants as statements

-- what an instruction's immediate will be
pub data Immediate : Type 0 where
  Fixed : (number : ℤ) → Immediate
  Plain : (value : List Token) → Immediate
  Low : (value : List Token) → Immediate
  High : (value : List Token) → Immediate
  Target : (value : List Token) → Immediate
  PcHigh : (value : List Token) → Immediate
  PcLow : (value : List Token) → Immediate

-- an instruction before its value; a register that its form doesn't have is 0
pub record Template : Type 0 where
  pub op : Op
  pub rd : ℕ
  pub rs1 : ℕ
  pub rs2 : ℕ
  pub immediate : Immediate

pub data Statement : Type 0 where
  Nothing : Statement
  One : (first : Template) → Statement
  Two : (first : Template) → (second : Template) → Statement
  LoadNumber : (rd : ℕ) → (value : List Token) → Statement
  InSection : (section : Section) → Statement
  Align : (alignment : Alignment) → (value : List Token) → Statement
  Space : (value : List Token) → Statement
  Strings : (with_zero : Bool) → (strings : List Token) → Statement
  Data : (size : ℕ) → (values : List Token) → Statement
  Define : (name : Token) → (value : List Token) → Statement
  Common : (name : Token) → (size : List Token) → (alignment : List Token) → Statement
  Bind : (binding : Binding) → (names : List Token) → Statement
  OfKind : (name : Token) → (kind : Kind) → Statement
  Size : (name : Token) → (value : List Token) → Statement

abbrev pub immediate_of : coded.Immediate → Immediate
immediate_of (immediates.Fixed n) = Fixed n
immediate_of (immediates.Plain v) = Plain v.now
immediate_of (immediates.Low v) = Low v.now
immediate_of (immediates.High v) = High v.now
immediate_of (immediates.Target v) = Target v.now
immediate_of (immediates.PcHigh v) = PcHigh v.now
immediate_of (immediates.PcLow v) = PcLow v.now

abbrev pub template_of : templates.Template → Template
template_of t = record { op = t.op; rd = t.rd; rs1 = t.rs1; rs2 = t.rs2; immediate = immediate_of t.immediate }

abbrev pub statement_of : written.Statement → Statement
statement_of statements.Nothing = Nothing
statement_of (statements.One t) = One (template_of t)
statement_of (statements.Two t u) = Two (template_of t) (template_of u)
statement_of (statements.LoadNumber rd v) = LoadNumber rd v.now
statement_of (statements.InSection s) = InSection s
statement_of (statements.Align a v) = Align a v.now
statement_of (statements.Space v) = Space v.now
statement_of (statements.Strings z s) = Strings z s.now
statement_of (statements.Data n vs) = Data n vs.now
statement_of (statements.Define name v) = Define name v.now
statement_of (statements.Common name n a) = Common name n.now a.now
statement_of (statements.Bind b names) = Bind b names.now
statement_of (statements.OfKind name k) = OfKind name k
statement_of (statements.Size name v) = Size name v.now
