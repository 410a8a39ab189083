-- The version of the library: 1.2.0, as 65536 × major + 256 × minor + patch (no call of paper 01; DECISIONS 29). Assumes nothing.
use Rattle.std.specs.Prelude.{ℕ, ◌≡◌}

abbrev pub version : ℕ
version = 66048

abbrev pub VersionPromise : ℕ → Type 0
VersionPromise r = r ≡ version
