-- How a call by bits ends: by the number that it returns, what is in the caller's memory, and the length that it sets.
use Rattle.std.specs.Prelude.{◌≡◌, ◌≢◌, ◌<◌, ◌≤◌, ℕ, List, length, take}
use Rattle.bit_answers.specs.declared.fault.BitFault.{BitFault}
use Rattle.bit_answers.specs.Faults.{number_of}

-- 0 says that the answer is there, and any other number is that of a fault, and then what was there is unchanged
pub record IsChosen {A : Type 0} (Is : A → Type 0) (IsRefused : BitFault → Type 0) (number : ℕ) (before now : A) : Type 0 where
  pub done : number ≡ 0 → Is now
  pub refused : number ≢ 0 → (now ≡ before) × (fault : BitFault) × IsRefused fault × (number ≡ number_of fault)

-- 0 says that the whole list is there, 8 that it has no room, and any other number is that of a fault
pub record IsListed {A : Type 0} (Is : List A → Type 0) (IsRefused : BitFault → Type 0) (number : ℕ) (before now : List A) (written : ℕ) : Type 0 where
  pub done : number ≡ 0 → (written ≤ length now) × Is (take written now)
  pub no_room : number ≡ 8 → (now ≡ before) × (all : List A) × Is all × (length before < length all) × (written ≡ length all)
  pub refused : number ≢ 0 → number ≢ 8 → (now ≡ before) × (written ≡ 0) × (fault : BitFault) × IsRefused fault × (number ≡ number_of fault)
