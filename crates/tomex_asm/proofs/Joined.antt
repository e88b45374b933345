-- Appends, one after another.
use Rattle.std.proofs.Common.{◌≡◌, ℕ, List, ◌++◌, ◌∙◌, append_assoc}

pub five_joined : (old f g h k new a b c d e : List ℕ) → f ≡ old ++ a → g ≡ f ++ b → h ≡ g ++ c → k ≡ h ++ d
    → new ≡ k ++ e → new ≡ old ++ (a ++ (b ++ (c ++ (d ++ e))))
five_joined old f g h k new a b c d e e1 e2 e3 e4 e5 =
    let all : new ≡ (((((old ++ a) ++ b) ++ c) ++ d) ++ e) = cc in
    all ∙ simp append_assoc

pub six_joined : (old f g h k l new a b c d e m : List ℕ) → f ≡ old ++ a → g ≡ f ++ b → h ≡ g ++ c → k ≡ h ++ d
    → l ≡ k ++ e → new ≡ l ++ m → new ≡ old ++ (a ++ (b ++ (c ++ (d ++ (e ++ m)))))
six_joined old f g h k l new a b c d e m e1 e2 e3 e4 e5 e6 =
    let all : new ≡ ((((((old ++ a) ++ b) ++ c) ++ d) ++ e) ++ m) = cc in
    all ∙ simp append_assoc
