-- Connections by how they begin: those that speak another protocol, and those that don't.
use Rattle.std.proofs.Common.{◌≡◌, ℕ, true, false, List, [], ◌∷◌, refl, codes}
use Rattle.std.specs.List.{list_all, list_any}
use Rattle.mc_net.specs.Foreign.{is_foreign, is_http}

-- what browsers, curl, TLS and clients of the binary protocol send first
abbrev foreign : List (List ℕ)
foreign =
    codes "GET / HTTP/1.1\r\nHost: a\r\n" ∷ codes "GET /" ∷ codes "HEAD /index.html HTTP/1.0\r\n" ∷ codes
    "POST /a HTTP/1.1\r\n" ∷ codes "PUT /a HTTP/1.1\r\n"
    ∷ codes "DELETE /a HTTP/1.1\r\n" ∷ codes "OPTIONS /" ∷ codes "PATCH /a" ∷ codes "TRACE /a"
    ∷ (0x80 ∷ []) ∷ (0x80 ∷ 0x0A ∷ 0 ∷ 0 ∷ []) ∷ (0x16 ∷ 0x03 ∷ []) ∷ (0x16 ∷ 0x03 ∷ 0x01 ∷ 2 ∷ 0 ∷ 1 ∷ []) ∷ []

-- commands, invalid lines, and beginnings that are too short to detect a protocol
abbrev ours : List (List ℕ)
ours =
    [] ∷ codes "get /" ∷ codes "get /key\r\n" ∷ codes "set a 0 0 1\r\nx\r\n" ∷ codes "mg a v\r\n" ∷ codes "mn\r\n" ∷
    codes "version\r\n" ∷ codes "\r\n"
    ∷ codes "G" ∷ codes "GET" ∷ codes "GET " ∷ codes "GET a\r\n" ∷ codes "GET  /" ∷ codes " GET /" ∷ codes "GETS /" ∷
    codes "OPTIONS *" ∷ codes "put /"
    ∷ (0x16 ∷ []) ∷ (0x16 ∷ 0x02 ∷ []) ∷ (0x81 ∷ []) ∷ (0 ∷ 0x80 ∷ []) ∷ []

another_protocol : list_all is_foreign foreign ≡ true
unfolding is_foreign is_http
another_protocol = refl

no_other_protocol : list_any is_foreign ours ≡ false
unfolding is_foreign is_http
no_other_protocol = refl
