-- The first bytes of connections that speak other protocols.
use Rattle.std.specs.Prelude.{ℕ, ◌≡◌, ◌==◌, ◌&&◌, ◌||◌, ⊤, Bool, List, [], ◌∷◌, Option, Some, None, codes, length}
use Rattle.std.specs.Prelude.{nat_eq, take, if◌then◌else◌}
use Rattle.std.specs.List.{list_any, starts_with}
use Rattle.mc_telemetry.specs.declared.event.Manner.{Manner}
use Rattle.mc_telemetry.specs.declared.event.Manner.TheVariants.{Binary, Http, Tls}

-- HTTP requests: a method, a space and the start of a path (RFC 9112, section 3)
abbrev pub http_begins : List (List ℕ)
http_begins =
    codes "GET /" ∷ codes "HEAD /" ∷ codes "POST /" ∷ codes "PUT /" ∷ codes "DELETE /" ∷ codes "OPTIONS /" ∷ codes
    "PATCH /" ∷ codes "TRACE /" ∷ []

-- a request of memcached's binary protocol: its magic byte
abbrev pub binary_begin : List ℕ
binary_begin = 0x80 ∷ []

-- TLS: a handshake of any version (RFC 8446, section 5.1)
abbrev pub tls_begin : List ℕ
tls_begin = 0x16 ∷ 0x03 ∷ []

-- whether these first bytes are those of an HTTP request
unfoldable pub is_http : List ℕ → Bool
is_http bytes = list_any (λ begin. starts_with nat_eq bytes begin) http_begins

-- whether these first bytes are those of another protocol
unfoldable pub is_foreign : List ℕ → Bool
is_foreign bytes = starts_with nat_eq bytes binary_begin || starts_with nat_eq bytes tls_begin || is_http bytes

-- the protocol of these bytes, if it is another one; no two of them start with the same byte
unfoldable pub protocol_of : List ℕ → Manner
protocol_of bytes =
    if starts_with nat_eq bytes binary_begin then Binary else if starts_with nat_eq bytes (0x16 ∷ []) then Tls else Http

-- the number of bytes needed to detect it
abbrev pub first_bytes : ℕ
first_bytes = 9

-- Peeking at the next bytes, if they are known, shows as many of them as there are and as fit.
abbrev pub ShowsNext : Option (List ℕ) → List ℕ → ℕ → Type 0
ShowsNext None room count = ⊤
ShowsNext (Some bytes) room count = take count room ≡ take (length room) bytes

-- A read returns no byte exactly if the first bytes are another protocol's, and detection is on, or if
-- nothing is left.
abbrev pub EndsWhere : Bool → Option (List ℕ) → ℕ → Type 0
EndsWhere sniff_protocol None count = ⊤
EndsWhere sniff_protocol (Some bytes) count =
    (count == 0) ≡ ((sniff_protocol && is_foreign (take first_bytes bytes)) || length bytes == 0)
