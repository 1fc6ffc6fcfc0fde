-- The bytes of an answer (RFC 9112 sections 4 and 6).
use Rattle.std.specs.Prelude.{◌≡◌, ◌⊎◌, ℕ, Bool, Option, take, [], ◌++◌, codes, length}
use Rattle.std.specs.Prelude.{if◌then◌else◌, unwrap_or, Result, Err, OnOk, OnErr}
use Rattle.std.specs.Fmt.{decimal}
use Rattle.std.specs.Io.KnownBytes.{Appends}
use Rattle.texts.specs.StreamWords.{Bytes}
use Rattle.texts.specs.declared.streams.StreamFault.{StreamFault}
use Rattle.texts.specs.declared.streams.StreamFault.TheVariants.{Write}
use Rattle.http_messages.specs.Words.{StatusCode}
use Rattle.json_fields.specs.declared.fault.WireFault.{WireFault}
use Rattle.json_fields.specs.declared.fault.WireFault.TheVariants.{Memory, NotRequest}
use Rattle.wire.specs.Spelled.{fault_text}
use Rattle.http.specs.StatusCode.{reason_phrase}
use Rattle.http_messages.specs.Statuses.{bad_request, service_unavailable}
use Rattle.http_messages.specs.declared.text.Media.{Media}
use Rattle.http_messages.specs.declared.text.Media.TheVariants.{Json, Text}

-- the phrase of a status
unfoldable pub phrase : StatusCode → Bytes
phrase status = unwrap_or (reason_phrase status) []

-- an answer after which the connection ends says so
abbrev pub closing_line : Bool → Bytes
closing_line closes = if closes then codes "Connection: close\r\n" else []

-- the bytes of an answer
-- rule: http-answer: the bytes of an answer, or a beginning of them
abbrev pub response : StatusCode → Bool → Bytes → Bytes
response status closes body =
    codes "HTTP/1.1 " ++ (decimal status ++ (codes " " ++ (phrase status
    ++ (codes "\r\nContent-Type: application/json\r\nContent-Length: "
    ++ (decimal (length body) ++ (codes "\r\n" ++ (closing_line closes
    ++ (codes "\r\n" ++ body))))))))

-- the bytes of an answer whose body is of this kind
abbrev pub response_of : Media → StatusCode → Bool → Bytes → Bytes
response_of Json status closes body = response status closes body
response_of Text status closes body = text_head status closes (length body) ++ body
  where
    text_head : StatusCode → Bool → ℕ → Bytes
    text_head status closes n =
        codes "HTTP/1.1 " ++ (decimal status ++ (codes " " ++ (phrase status
        ++ (codes "\r\nContent-Type: text/plain\r\nContent-Length: "
        ++ (decimal n ++ (codes "\r\n" ++ (closing_line closes ++ codes "\r\n")))))))

-- the body of a refusal
abbrev pub no_members : Bytes
no_members = codes "{}"

-- the body where there is no memory, no store or no clock
abbrev pub unable : Bytes
unable = codes "{\"Result-Code\":5012}"

-- a text is written, or that there is no memory
abbrev pub AnswersText : Bool → StatusCode → Bytes → (Bytes → Type 0) → Type 0
AnswersText closes status body Writes = Writes (response_of Text status closes body)
    ⊎ Writes (response service_unavailable closes unable)

-- a request that isn't read is answered its fault, or that there is no memory: not so what is no
-- JSON object
-- rule: http-refusals
abbrev pub AnswersFault : Bool → WireFault → (Bytes → Type 0) → Type 0
AnswersFault closes fault Writes =
    ((fault ≡ Memory → ⊥) × Writes (response bad_request closes (fault_text fault)))
    ⊎ ((fault ≡ NotRequest → ⊥) × Writes (response service_unavailable closes unable))

-- a beginning of a text is written
abbrev pub AppendsBeginning : Option Bytes → Option Bytes → Bytes → Type 0
AppendsBeginning old new text = (n : ℕ) × Appends old new (take n text)

-- ---- what is written

-- a text is written, or a beginning of it where the writer failed
-- rule: http-leave: an answer leaves where no more bytes have come, and is the same bytes where it
--   waits
pub record WritesText {A : Type 0} (text : Bytes) (old new : Option Bytes)
    (result : Result A StreamFault) : Type 0 where
  pub ok : OnOk result (Appends old new text)
  pub err : OnErr result (AppendsBeginning old new text)
  pub fault : OnErr result (result ≡ Err Write)

-- so it is of what this writes
-- rule: http-leave
pub record WritesTold {A : Type 0} (tells : (Bytes → Type 0) → Type 0) (old new : Option Bytes)
    (result : Result A StreamFault) : Type 0 where
  pub ok : OnOk result (tells (Appends old new))
  pub err : OnErr result (tells (AppendsBeginning old new))
  pub fault : OnErr result (result ≡ Err Write)
