-- A row's choices have no commas, so they are the parts of what they are joined to.
use Rattle.std.proofs.Common.{◌≡◌, ◌∙◌, ap, arith, refl, subst, ℕ, ◌==◌, All, List, [], ◌∷◌}
use Rattle.std.proofs.Common.{◌++◌, Bool, true, false, not, ◌||◌, inl, inr, bytes_eq, codes, decimal, slice_index_or}
use Rattle.std.specs.List.{join_with_byte, list_all, list_any}
use Rattle.std.proofs.lemmas.Bool.{ne_eqb, or_cases}
use Rattle.std.proofs.lemmas.List.Elements.{All-append, All-head, All-tail, All-weaker}
use Rattle.std.proofs.lemmas.List.Splits.{slice_split_at, slice_split_none}
use Rattle.std.proofs.lemmas.List.Sums.{AllPass-from_list_all}
use Rattle.std.proofs.lemmas.Slice.Eq.{bytes_eq-Decides}
use Rattle.tomex_rvdec.specs.declared.pool.PoolId.TheVariants as pools
use Rattle.tomex_rvdec.specs.declared.pool.UnitId.TheVariants as units
use Rattle.tomex_config.specs.Settings.{all_settings, setting_of}
use Rattle.tomex_config.specs.declared.part.Part.TheVariants.{Stations, Units, Buses, Width}
use Rattle.tomex_config.specs.declared.setting.Setting.{Setting}
use Rattle.tomex_config.specs.declared.setting.Setting.TheVariants.{Count, Latency}
use Rattle.tomex_layout.specs.Lists.{name_of_setting}
use Rattle.tomex_study.specs.Study.{DesignSpace, config_at}
use Rattle.tomex_find.specs.Find.{has_all, has_choice}
use Rattle.tomex_find.specs.RowName.{choices_in}
use Rattle.tomex_views.proofs.Numbers.{decimal_digits, is_digit}

abbrev Lacks : List ℕ → Type 0
Lacks text = All (λ b. (b == 44) ≡ false) text

-- a number

digit_lacks : (b : ℕ) → is_digit b ≡ true → (b == 44) ≡ false
digit_lacks b digit =
    ne_eqb b 44 (λ e. let f : false ≡ true = subst (λ (x : ℕ). is_digit x ≡ true) e digit in absurd cc)

number_lacks : (n : ℕ) → Lacks (decimal n)
number_lacks n =
    All-weaker (λ b. is_digit b ≡ true) (λ b. (b == 44) ≡ false) digit_lacks (decimal n) (decimal_digits n)

-- a name, and a choice of that name

abbrev lacks : List ℕ → Bool
lacks text = list_all (λ b. not (b == 44)) text

text_lacks : (text : List ℕ) → lacks text ≡ true → Lacks text
text_lacks text h =
    All-weaker (λ b. not (b == 44) ≡ true) (λ b. (b == 44) ≡ false) (λ b p. grind arith) text
    (AllPass-from_list_all (λ b. not (b == 44)) text h)

setting_lacks : (setting : Setting) → lacks (name_of_setting setting) ≡ true
setting_lacks (Count (Stations pools.Alu)) = refl
setting_lacks (Count (Stations pools.Mul)) = refl
setting_lacks (Count (Stations pools.Div)) = refl
setting_lacks (Count (Stations pools.Load)) = refl
setting_lacks (Count (Stations pools.Store)) = refl
setting_lacks (Count (Stations pools.Bru)) = refl
setting_lacks (Count (Units units.Alu)) = refl
setting_lacks (Count (Units units.Mul)) = refl
setting_lacks (Count (Units units.Div)) = refl
setting_lacks (Count (Units units.Mem)) = refl
setting_lacks (Count (Units units.Bru)) = refl
setting_lacks (Count Buses) = refl
setting_lacks (Count Width) = refl
setting_lacks (Latency units.Alu) = refl
setting_lacks (Latency units.Mul) = refl
setting_lacks (Latency units.Div) = refl
setting_lacks (Latency units.Mem) = refl
setting_lacks (Latency units.Bru) = refl

module _ (name : List ℕ) (value : ℕ) (word : List ℕ) where
  choice_lacks : lacks name ≡ true → bytes_eq (name ++ (codes "=" ++ decimal value)) word ≡ true → Lacks word
  choice_lacks h e =
      let P = λ (b : ℕ). (b == 44) ≡ false in
      subst Lacks ((bytes_eq-Decides (name ++ (codes "=" ++ decimal value)) word).0 e)
      (All-append P name (codes "=" ++ decimal value) (text_lacks name h)
      (All-append P (codes "=") (decimal value) (text_lacks (codes "=") refl) (number_lacks value)))

module _ (s : DesignSpace) (k : ℕ) (word : List ℕ) where
  abbrev is_of : Setting → Bool
  is_of t = bytes_eq (name_of_setting t ++ (codes "=" ++ decimal (setting_of (config_at s k) t))) word

  some_lacks : (settings : List Setting) → list_any is_of settings ≡ true → Lacks word
  some_lacks [] e = absurd (let f : false ≡ true = e in cc)
  some_lacks (t ∷ ts) e = elim (or_cases (is_of t) (list_any is_of ts) e) [
    | inl h ↦ choice_lacks (name_of_setting t) (setting_of (config_at s k) t) word (setting_lacks t) h
    | inr h ↦ some_lacks ts h
  ]

  abbrev is_cost : Bool
  is_cost = bytes_eq (codes "cost" ++ (codes "=" ++ decimal (slice_index_or s.costs k 0))) word

  others_lack : (is_cost || list_any is_of all_settings) ≡ true → Lacks word
  others_lack e = elim (or_cases is_cost (list_any is_of all_settings) e) [
    | inl h ↦ choice_lacks (codes "cost") (slice_index_or s.costs k 0) word refl h
    | inr h ↦ some_lacks all_settings h
  ]

  -- what a row has
  had_lacks : has_choice s k word ≡ true → Lacks word
  unfolding has_choice
  had_lacks e = elim (or_cases (bytes_eq (codes "row" ++ (codes "=" ++ decimal k)) word) _ e) [
    | inl h ↦ choice_lacks (codes "row") k word refl h
    | inr h ↦ others_lack h
  ]

-- texts, at least one and each without commas, are the parts of their join
parts : (text : List ℕ) (texts : List (List ℕ)) → All Lacks (text ∷ texts)
    → choices_in (join_with_byte 44 (text ∷ texts)) ≡ text ∷ texts
parts text [] each = slice_split_none (λ b. b == 44) text (All-head Lacks text [] each)
parts text (next ∷ texts) each =
    slice_split_at (λ b. b == 44) text 44 (join_with_byte 44 (next ∷ texts))
    (All-head Lacks text (next ∷ texts) each) refl
    ∙ ap (λ (ts : List (List ℕ)). text ∷ ts) (parts next texts (All-tail Lacks text (next ∷ texts) each))

pub choices_back : (s : DesignSpace) (k : ℕ) (word : List ℕ) (words : List (List ℕ)) → has_all s (word ∷ words) k ≡ true
    → choices_in (join_with_byte 44 (word ∷ words)) ≡ word ∷ words
unfolding has_all
choices_back s k word words all =
    parts word words
    (All-weaker (λ w. has_choice s k w ≡ true) Lacks (had_lacks s k) (word ∷ words)
    (AllPass-from_list_all (has_choice s k) (word ∷ words) all))
