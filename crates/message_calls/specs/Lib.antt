pub mod MessageCalls
