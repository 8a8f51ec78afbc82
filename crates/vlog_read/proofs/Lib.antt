mod Answering
mod Answers
