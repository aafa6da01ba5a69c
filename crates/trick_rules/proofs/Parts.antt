-- Values made of two parts.
use Rattle.std.proofs.Common.{◌≡◌, ◌∙◌, Bool, sym, ap, ap₂}
use Rattle.std.specs.Prelude.{◌↔◌, IsTrue}

-- if the first parts are equal, the values are equal exactly when the second parts are
pub same_if_second_parts : {A B V : Type 0} (make : A → B → V) (second : V → B) → ((a : A) (b : B) → second (make a b) ≡ b)
    → (x y : V) (a a' : A) (b b' seen seen' : B) (same : Bool) → make a b ≡ x → make a' b' ≡ y → a ≡ a' → seen ≡ b → seen' ≡ b' → IsTrue same ↔ (seen ≡ seen')
    → IsTrue same ↔ (x ≡ y)
same_if_second_parts make second second-make x y a a' b b' seen seen' same here there first is is' parts = (
  λ e. sym here ∙ ap₂ make first (sym is ∙ parts.0 e ∙ is') ∙ there,
  λ e. parts.1 (is ∙ sym (second-make a b) ∙ ap second (here ∙ e ∙ sym there) ∙ second-make a' b' ∙ sym is'),
)
