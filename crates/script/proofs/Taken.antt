use Rattle.std.proofs.Common.{◌≡◌, ℕ, List, Option, Some, None, IfSome, option_map, take}

-- what a limited reader gave is the front of what the reader had
pub taken : (n : ℕ) (got : List ℕ) (has : Option (List ℕ)) → IfSome (option_map (take n) has) (λ bytes. got ≡ bytes) → IfSome has (λ bytes. got ≡ take n bytes)
taken n got None h = h
taken n got (Some bytes) h = h
