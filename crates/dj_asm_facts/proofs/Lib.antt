pub mod SizeFacts
mod UseFacts
mod RoomFacts
mod PastFacts
mod PartFacts
