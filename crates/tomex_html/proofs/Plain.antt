-- No character of a name is markup.
use Rattle.std.proofs.Common.{◌≡◌, ◌∙◌, ◌<◌, ◌≤◌, ◌+◌, ◌/◌, ◌%◌, ℕ, [], ◌∷◌, ◌++◌, arith, false, inl, inr, refl, true}
use Rattle.std.specs.Prelude.{◌≢◌, ◌==◌, codes, nat_le, nat_lt}
use Rattle.std.specs.Char.{encode_utf8, is_control}
use Rattle.std.specs.Fmt.{digit_glyph, digits}
use Rattle.std.specs.Int.{is_in_range}
use Rattle.std.specs.List.{list_all}
use Rattle.std.proofs.lemmas.Bool.{and_from, and_parts, cases_Bool, leb-true, ltb-false, ltb-true, ne_eqb, or_cases}
use Rattle.std.proofs.lemmas.Fmt.{hex_one_digit, hex_two_digits}
use Rattle.std.proofs.lemmas.List.Folds.{list_all-append}
use Rattle.tomex_layout.specs.Names.{shown_char}
use Rattle.tomex_html.specs.Html.{html_char}
use Rattle.tomex_html.specs.Laws.{IsCharacterText, is_plain}

plain_if : (b : ℕ) → b ≢ 38 → b ≢ 60 → b ≢ 62 → b ≢ 34 → is_plain b ≡ true
plain_if b n38 n60 n62 n34 = rw (ne_eqb b 38 n38, ne_eqb b 60 n60, ne_eqb b 62 n62, ne_eqb b 34 n34) refl

high : (b : ℕ) → 63 ≤ b → is_plain b ≡ true
high b l = plain_if b (λ e. let f : b ≡ 38 = e in absurd (omega (arith, l, f))) (λ e. let f : b ≡ 60 = e in absurd
    (omega (arith, l, f)))
    (λ e. let f : b ≡ 62 = e in absurd (omega (arith, l, f))) (λ e. let f : b ≡ 34 = e in absurd (omega (arith, l, f)))

glyph : (n : ℕ) → n < 16 → is_plain (digit_glyph false n) ≡ true
glyph n l = elim (cases_Bool (nat_lt n 10)) [
  | inl e ↦ let low : n < 10 = ltb-true n 10 e in rw e (plain_if (48 + n) (λ f. let g : 48 + n ≡ 38 = f in absurd
      (omega (arith, g)))
      (λ f. let g : 48 + n ≡ 60 = f in absurd (omega (arith, g, low))) (λ f. let g : 48 + n ≡ 62 = f in absurd (omega
      (arith, g, low)))
      (λ f. let g : 48 + n ≡ 34 = f in absurd (omega (arith, g))))
  | inr e ↦ rw e (high (87 + n) (omega arith))
]

code_plain : (c : ℕ) → c < 256 → list_all is_plain (digits 16 false c) ≡ true
code_plain c l = elim (cases_Bool (nat_lt c 16)) [
  | inl e ↦ rw (hex_one_digit false c (ltb-true c 16 e)) (and_from _ _ (glyph c (ltb-true c 16 e)) refl)
  | inr e ↦ let big : 16 ≤ c = ltb-false c 16 e in
      rw (hex_two_digits false c big l) (and_from _ _ (glyph (c / 16) (omega (arith, l))) (and_from _ _ (glyph (c %
      16) (omega arith)) refl))
]

control_low : (c : ℕ) → is_control c ≡ true → c < 256
control_low c e = elim (or_cases (is_in_range 0 31 c) (is_in_range 127 159 c) e) [
  | inl a ↦ let k : c ≤ 31 = leb-true c 31 (and_parts (nat_le 0 c) (nat_le c 31) a).1 in omega (arith, k)
  | inr b ↦ let k : c ≤ 159 = leb-true c 159 (and_parts (nat_le 127 c) (nat_le c 159) b).1 in omega (arith, k)
]

last : (c : ℕ) → list_all is_plain ((128 + c % 64) ∷ []) ≡ true
last c = and_from _ _ (high (128 + c % 64) (omega arith)) refl

utf8_plain : (c : ℕ) → is_plain c ≡ true → list_all is_plain (encode_utf8 c) ≡ true
unfolding encode_utf8
utf8_plain c plain = elim (cases_Bool (nat_lt c 128)) [
  | inl e ↦ rw e (and_from _ _ plain refl)
  | inr e ↦ elim (cases_Bool (nat_lt c 2048)) [
    | inl f ↦ rw (e, f) (and_from _ _ (high (192 + c / 64) (omega arith)) (last c))
    | inr f ↦ elim (cases_Bool (nat_lt c 65536)) [
      | inl k ↦ rw (e, f, k) (and_from _ _ (high (224 + c / 4096) (omega arith))
          (and_from _ _ (high (128 + c / 64 % 64) (omega arith)) (last c)))
      | inr k ↦ rw (e, f, k) (and_from _ _ (high (240 + c / 262144) (omega arith))
          (and_from _ _ (high (128 + c / 4096 % 64) (omega arith))
          (and_from _ _ (high (128 + c / 64 % 64) (omega arith)) (last c))))
    ]
  ]
]

shown_plain : (c : ℕ) → is_plain c ≡ true → list_all is_plain (shown_char c) ≡ true
shown_plain c plain = elim (cases_Bool (c == 0)) [
  | inl e ↦ rw e refl
  | inr e0 ↦ elim (cases_Bool (c == 9)) [
    | inl e ↦ rw (e0, e) refl
    | inr e9 ↦ elim (cases_Bool (c == 10)) [
      | inl e ↦ rw (e0, e9, e) refl
      | inr e10 ↦ elim (cases_Bool (c == 13)) [
        | inl e ↦ rw (e0, e9, e10, e) refl
        | inr e13 ↦ elim (cases_Bool (is_control c)) [
          | inl e ↦ rw (e0, e9, e10, e13, e) (list_all-append is_plain (codes "\\u{") (digits 16 false c ++ codes "}")
              ∙ and_from _ _ refl (list_all-append is_plain (digits 16 false c) (codes "}")
              ∙ and_from _ _ (code_plain c (control_low c e)) refl))
          | inr e ↦ rw (e0, e9, e10, e13, e) (utf8_plain c plain)
        ]
      ]
    ]
  ]
]

pub names_are_text : (c : ℕ) → IsCharacterText (html_char c)
unfolding html_char
names_are_text c = elim (cases_Bool (c == 38)) [
  | inl e ↦ rw e (inl refl)
  | inr e38 ↦ elim (cases_Bool (c == 60)) [
    | inl e ↦ rw (e38, e) (inr (inl refl))
    | inr e60 ↦ elim (cases_Bool (c == 62)) [
      | inl e ↦ rw (e38, e60, e) (inr (inr (inl refl)))
      | inr e62 ↦ elim (cases_Bool (c == 34)) [
        | inl e ↦ rw (e38, e60, e62, e) (inr (inr (inr (inl refl))))
        | inr e34 ↦ rw (e38, e60, e62, e34) (inr (inr (inr (inr
            (shown_plain c (rw (e38, e60, e62, e34) refl))))))
      ]
    ]
  ]
]
