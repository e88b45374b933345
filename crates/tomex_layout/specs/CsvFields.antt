-- What is in a table's cells, as fields of CSV.
use Rattle.std.specs.Prelude.{ℕ, ◌==◌, nat_lt, Bool, if◌then◌else◌, List, [], ◌∷◌, codes}
use Rattle.std.specs.Fmt.{decimal}
use Rattle.std.specs.Str.{bytes_eq}

-- a number without its plus sign
abbrev pub without_plus : List ℕ → List ℕ
without_plus [] = []
without_plus (sign ∷ digits) = if sign == 43 then digits else sign ∷ digits

-- the number in a cell; where `-` stands there is none
abbrev pub number_field : List ℕ → List ℕ
number_field cell = if bytes_eq cell (codes "-") then [] else without_plus cell

-- a percentage by which amounts may be wrong; 100 stands for any, and so for none
abbrev pub percent_field : ℕ → List ℕ
percent_field percent = if nat_lt percent 100 then decimal percent else []

-- 1 if it is true, else 0
abbrev pub flag_field : Bool → List ℕ
flag_field flag = if flag then codes "1" else codes "0"
