-- FNV-1a of 32 bits (Fowler, Noll, Vo, Eastlake: The FNV Non-Cryptographic Hash Algorithm, section 2).
use Rattle.std.specs.Prelude.{ℕ, ◌*◌, ◌%◌, ◌^◌, List, [], ◌∷◌}
use Rattle.std.specs.Int.Bits.{bit_xor}

abbrev pub basis : ℕ
basis = 0x811C9DC5

abbrev pub prime : ℕ
prime = 0x01000193

-- the hash with one byte more
unfoldable pub step : ℕ → ℕ → ℕ
step h b = bit_xor h b * prime % 2 ^ 32

-- the hash with the bytes more
unfoldable pub more : ℕ → List ℕ → ℕ
unfolding step
more h [] = h
more h (b ∷ bs) = more (step h b) bs

abbrev pub fnv1a : List ℕ → ℕ
fnv1a bs = more basis bs
